-- What the invariant says of a seat stays as the state grows, with the seat's own new seals and blocks where it has made some.
use Rattle.std.proofs.Common.{◌≡◌, ℕ, ◌≤◌, Bool, true, ◌⊎◌, List, sym, ◌∙◌, inl, inr, arith}
use Rattle.model.specs.Setup.{Plan, round_of, maker_of}
use Rattle.model.specs.World.{World, Seat, Phase, notarization}
use Rattle.model.proofs.Growth.{Grows, Backed, shares_grow, backed_stays, chain_stays, valid_stays}
use Rattle.model.proofs.Pools.{in_pool_made, valid_known}
use Rattle.model.proofs.Invariant.{frontier, PastOrMarked, Settled, Stage, Twins, Inside, SealedLast, Own, Marks, Anchor, SeatOk, Inv}

module _ (p : Plan) (w v : World) (i : Inv p w) (g : Grows w v) (s : ℕ) where
  settled_stays : (k : ℕ) → Settled p w k → Settled p v k
  settled_stays k x = (x.0, x.1, g.posts_stay (notarization x.0) x.2)

  pub stage_stays : (phase : Phase) (k : ℕ) → Stage p w s phase k → Stage p v s phase k
  stage_stays phase k x = record {
    from_one = x.from_one;
    to_last = x.to_last;
    done_last = x.done_last;
    beacons = λ j a b. g.posts_stay _ (x.beacons j a b);
    past = λ j a b. settled_stays j (x.past j a b);
    past_done = λ h. settled_stays k (x.past_done h);
  }

  twins_stay : (k r : ℕ) → Twins p w k r → Twins p v k r
  twins_stay k r x = record {
    one = x.one;
    two = x.two;
    differ = x.differ;
    rank_one = x.rank_one;
    rank_two = x.rank_two;
    round_one = x.round_one;
    round_two = x.round_two;
    backed_one = backed_stays p w v g i.blocks x.one x.backed_one;
    backed_two = backed_stays p w v g i.blocks x.two x.backed_two;
  }

  pub inside_stays : (k : ℕ) (proposed : Bool) (noted disqualified : ℕ → Bool) → Inside p w s k proposed noted disqualified → Inside p v s k proposed noted disqualified
  inside_stays k proposed noted disqualified x = record {
    next_share = λ h. g.posts_stay _ (x.next_share h);
    noted_ok = λ b h. let y = x.noted_ok b h in record {
      seal_made = g.seals_stay 2 s b y.seal_made;
      share_posted = g.posts_stay _ y.share_posted;
      of_round = y.of_round;
      in_range = y.in_range;
    };
    noted_once = x.noted_once;
    disqualified_ok = λ r h. twins_stay k r (x.disqualified_ok r h);
    proposed_ok = λ h. g.made_stays _ (x.proposed_ok h);
  }

  pub anchor_stays : (k : ℕ) (catalogue : List ℕ) → Anchor p w s k catalogue → Anchor p v s k catalogue
  anchor_stays k catalogue (b, a, e) = (
    b,
    record {
      sits = valid_stays p w v g i.blocks s (in_pool_made p w i s) k b a.level a.sits;
      level = a.level;
      final = λ h. omega (arith, a.final h, shares_grow w v g p.n 4 b);
    },
    e ∙ sym (chain_stays p w v g i.blocks k b (valid_known p w i s k b a.sits) a.level).0,
  )

  -- The seat moves from one phase, round and marks to others, with what is new in the later state.
  module _ (phase phase' : Phase) (k k' : ℕ) (proposed proposed' : Bool) (noted noted' : ℕ → Bool) where
    -- a new seal for notarization is not of a round that the seat was past
    abbrev pub New2 : ℕ → Type 0
    New2 b = Backed p v b × (frontier phase k ≤ round_of p b) × PastOrMarked p phase' k' b (noted' b)

    pub marks_move :
        frontier phase k ≤ frontier phase' k' →
        ((b : ℕ) → PastOrMarked p phase k b (noted b) → PastOrMarked p phase' k' b (noted' b)) →
        ((b : ℕ) → PastOrMarked p phase k b proposed → PastOrMarked p phase' k' b proposed') →
        ((b : ℕ) → v.sealed 2 s b ≡ true → (w.sealed 2 s b ≡ true) ⊎ New2 b) →
        ((b : ℕ) → v.sealed 4 s b ≡ true → (w.sealed 4 s b ≡ true) ⊎ SealedLast p v s (frontier phase' k') b) →
        ((b : ℕ) → v.made b ≡ true → maker_of p b ≡ s → (w.made b ≡ true) ⊎ Own p v phase' k' proposed' b) →
        Marks p w s phase k proposed noted → Marks p v s phase' k' proposed' noted'
    marks_move further noted-so proposed-so new_2 new_4 new-own m = record {
      backed_2 = λ b h. elim (new_2 b h) [ inl o ↦ backed b (m.backed_2 b o) | inr x ↦ x.0 ];
      noted_2 = λ b h. elim (new_2 b h) [ inl o ↦ noted-so b (m.noted_2 b o) | inr x ↦ x.2 ];
      last_4 = λ b h. elim (new_4 b h) [ inl o ↦ last b (m.last_4 b o) | inr x ↦ x ];
      own = λ b h e. elim (new-own b h e) [ inl o ↦ mine b (m.own b o e) | inr x ↦ x ];
    }
      where
        backed : (b : ℕ) → Backed p w b → Backed p v b
        backed b = backed_stays p w v g i.blocks b

        last : (b : ℕ) → SealedLast p w s (frontier phase k) b → SealedLast p v s (frontier phase' k') b
        last b x = record {
          past = omega (arith, x.past);
          only = λ c e h. elim (new_2 c h) [ inl o ↦ x.only c e o | inr y ↦ absurd (omega (arith, x.past, y.1)) ];
          supported = omega (arith, x.supported, shares_grow w v g p.n 2 b);
        }

        mine : (b : ℕ) → Own p w phase k proposed b → Own p v phase' k' proposed' b
        mine b o = record { backed = backed b o.backed; first_variant = o.first_variant; used = proposed-so b o.used }

  -- the seat stays as it is, and has made no new seal or block
  pub seat_stays : (st : Seat) →
      ((b : ℕ) → v.sealed 2 s b ≡ true → w.sealed 2 s b ≡ true) →
      ((b : ℕ) → v.sealed 4 s b ≡ true → w.sealed 4 s b ≡ true) →
      ((b : ℕ) → v.made b ≡ true → maker_of p b ≡ s → w.made b ≡ true) → SeatOk p w s st → SeatOk p v s st
  seat_stays st old_2 old_4 old_made x = record {
    stage = stage_stays _ _ x.stage;
    inside = λ e. inside_stays _ _ _ _ (x.inside e);
    marks = marks_move st.phase st.phase st.round st.round st.proposed st.proposed st.noted st.noted
        (omega arith) (λ b h. h) (λ b h. h) (λ b h. inl (old_2 b h)) (λ b h. inl (old_4 b h)) (λ b h e. inl (old_made b h e)) x.marks;
    anchor = anchor_stays _ _ x.anchor;
  }
