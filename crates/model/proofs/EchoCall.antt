-- An echo meets its duties: the seat notes a block and seals it, or disqualifies the rank of two blocks.
use Rattle.std.proofs.Common.{◌≡◌, ℕ, Bool, true, false, ◌&&◌, eqb, ◌⊎◌, [], ◌∷◌, sym, refl, ap, ◌∙◌, subst, inl, inr, arith}
use Rattle.std.proofs.lemmas.Bool.{and_parts, and_from, or_cases, or_left, cases_Bool, cond_both, eqb-true, eq-eqb}
use Rattle.model.specs.Setup.{Plan, round_of, maker_of, rank_of, numbers}
use Rattle.model.specs.World.{World, Seat, Message, message, block, notarization, notarization_share, has, exists, notarized}
use Rattle.basics.specs.Put.{put}
use Rattle.model.specs.Checks.{verdict, noted_rank}
use Rattle.model.specs.Checks.Call.{echo}
use Rattle.model.specs.Checks.Verdict.{accepted}
use Rattle.model.specs.Seats.{noting, disqualifying}
use Rattle.model.specs.Effects.{passed_on, seals, broadcast, parent_notarization, effect}
use Rattle.model.proofs.Tests.{each_map, Each, each_append, has_first, has_left, has_right, not_both, put_each, put_here}
use Rattle.model.proofs.Searches.{found, none_below}
use Rattle.model.proofs.Accepted.{known_made, Echoes, echo_met}
use Rattle.model.proofs.Growth.{Grows, Backed, payload_sound, grows_none, payload_stays, backed_stays}
use Rattle.model.proofs.Existence.{exists_grows}
use Rattle.model.proofs.Ranges.{Fits, fits_grows, block_fits, notarization_fits, notarization_share_fits}
use Rattle.model.proofs.Invariant.{PastOrMarked, Twins, NotedOk, Inside, SeatOk, Inv}
use Rattle.model.proofs.Pools.{valid_says, notarized_exists}
use Rattle.model.proofs.Stays.{New2, stage_stays, inside_stays, marks_move, anchor_stays}
use Rattle.model.proofs.Sealing.{SealedBy, seals_each, sealed_by, by_sealed, echo_shares}
use Rattle.model.proofs.ParentNotarization.{parent_notarization_each, parent_notarization_has}
use Rattle.model.proofs.Duties.{Duties, effect_grows}

module _ (p : Plan) (w : World) (i : Inv p w) (s b : ℕ) (ok : Echoes p w s b) where
  abbrev st : Seat
  st = w.seat s

  abbrev v : World
  v = effect p w (echo s b)

  g : Grows w v
  g = effect_grows p w (echo s b) (grows_none w)

  before : SeatOk p w s st
  before = i.seats s ok.acts

  -- the root is of no seat's round
  is_made : w.made b ≡ true
  is_made = known_made p w b ok.block_known (omega (arith, ok.of_round, before.stage.from_one))

  says : (w.pool s (block b) ≡ true) × (notarized p w s (w.parent b) ≡ true) × (payload_sound p w b ≡ true)
  says = valid_says p w s b (i.blocks b is_made) ok.is_valid

  parent_exists : (w.parent b ≡ 0 → ⊥) → exists p v (notarization (w.parent b)) ≡ true
  parent_exists d = exists_grows p w v g (notarization (w.parent b)) (notarized_exists p w i s (round_of p (w.parent b)) (w.parent b) says.1 d)

  -- another's block is broadcast with its parent's notarization; the seat's own was broadcast when it was made
  passes : (m : Message) → eqb (maker_of p b) s ≡ false → has (block b ∷ parent_notarization (w.parent b)) m ≡ true → v.posted m ≡ true
  passes m e h = or_left _ _ (has_left (passed_on p w s b) (seals p w (echo s b)) m (rw e h))

  backed : Backed p v b
  backed = elim (cases_Bool (eqb (maker_of p b) s)) [
    | inl e ↦ backed_stays p w v g i.blocks b (before.marks.own b is_made (eqb-true (maker_of p b) s e)).backed
    | inr e ↦ record {
      is_made = is_made;
      block_posted = passes (block b) e (has_first (block b) (parent_notarization (w.parent b)));
      parent_posted = elim (parent_notarization_has (w.parent b)) [ inl z ↦ inl z | inr y ↦ inr (passes (notarization (w.parent b)) e y) ];
      payload = payload_stays p w v g i.blocks b is_made ∙ says.2;
    }
  ]

  arrives : Each (λ m. exists p v m ≡ true) (broadcast p w (echo s b))
  arrives = each_append _ (passed_on p w s b) (seals p w (echo s b))
      (cond_both (eqb (maker_of p b) s) [] (block b ∷ parent_notarization (w.parent b)) (Each (λ m. exists p v m ≡ true)) (λ _. tt)
      (λ _. (is_made, parent_notarization_each _ (w.parent b) parent_exists))) (echo_shares p w s b)

  parent_fits : (w.parent b ≡ 0 → ⊥) → Fits p v (notarization (w.parent b))
  parent_fits d = fits_grows p w v g (notarization (w.parent b)) (elim (i.blocks b is_made).parent_known [
    | inl e ↦ absurd (d e)
    | inr m ↦ notarization_fits p w (w.parent b) (i.blocks (w.parent b) m) m
  ])

  sends : Each (Fits p v) (broadcast p w (echo s b))
  sends = each_append (Fits p v) (passed_on p w s b) (seals p w (echo s b))
      (cond_both (eqb (maker_of p b) s) [] (block b ∷ parent_notarization (w.parent b)) (Each (Fits p v)) (λ _. tt)
      (λ _. (fits_grows p w v g (block b) (block_fits p w b (i.blocks b is_made) is_made), parent_notarization_each (Fits p v) (w.parent b) parent_fits)))
      (each_map (SealedBy p w (echo s b)) (Fits p v) (seals p w (echo s b)) (λ m x. subst (Fits p v) (sym x.0)
      (fits_grows p w v g (notarization_share s b) (notarization_share_fits p w b (i.blocks b is_made) is_made s ok.acts.below))) (seals_each p w (echo s b)))

  new_2 : (c : ℕ) → v.sealed 2 s c ≡ true → (w.sealed 2 s c ≡ true) ⊎ ((b ≡ c) × (noted_rank p st (rank_of p b) ≡ false))
  new_2 c h = elim (or_cases (has (seals p w (echo s b)) (message 2 s c)) _ h) [
    | inl n ↦ (let z = sealed_by p w (echo s b) (message 2 s c) n in inr (sym (ap (λ (m : Message). m.subject) z.0), z.1))
    | inr o ↦ inl o
  ]

  old_4 : (c : ℕ) → v.sealed 4 s c ≡ true → w.sealed 4 s c ≡ true
  old_4 c h = elim (or_cases (has (seals p w (echo s b)) (message 4 s c)) _ h) [
    | inl n ↦ let z = ap (λ (m : Message). m.kind) (sealed_by p w (echo s b) (message 4 s c) n).0 in absurd (omega arith)
    | inr o ↦ o
  ]

  in_it : Inside p v s st.round st.proposed st.noted st.disqualified
  in_it = inside_stays p w v i g s _ _ _ _ (before.inside ok.inside)

  abbrev of_rank : ℕ → Bool
  of_rank c = st.noted c && eqb (rank_of p c) (rank_of p b)

  -- the second block of a rank
  module _ (twin : noted_rank p st (rank_of p b) ≡ true) where
    twins : Twins p v st.round (rank_of p b)
    twins =
        let r = found of_rank (numbers p) twin in
        let c : ℕ = r.0 in
        let (noted, rank) = and_parts (st.noted c) (eqb (rank_of p c) (rank_of p b)) r.2 in
        let x = (before.inside ok.inside).noted_ok c noted in
        record {
          one = c;
          two = b;
          differ = λ e. not_both (st.noted b) (subst (λ (z : ℕ). st.noted z ≡ true) e noted) ok.unnoted;
          rank_one = eqb-true (rank_of p c) (rank_of p b) rank;
          rank_two = refl;
          round_one = x.of_round;
          round_two = ok.of_round;
          backed_one = backed_stays p w v g i.blocks c (before.marks.backed_2 c x.seal_made);
          backed_two = backed;
        }

    disqualified_seat : SeatOk p v s (disqualifying (rank_of p b) st)
    disqualified_seat = record {
      stage = stage_stays p w v i g s _ _ before.stage;
      inside = λ _. record {
        next_share = in_it.next_share;
        noted_ok = in_it.noted_ok;
        noted_once = in_it.noted_once;
        disqualified_ok = λ r. put_each (λ j z. z ≡ true → Twins p v st.round j) (rank_of p b) true st.disqualified r (λ _. twins) (in_it.disqualified_ok r);
        proposed_ok = in_it.proposed_ok;
      };
      marks = marks_move p w v i g s st.phase st.phase st.round st.round st.proposed st.proposed st.noted st.noted
          (omega arith) (λ c h. h) (λ c h. h)
          (λ c h. elim (new_2 c h) [ inl o ↦ inl o | inr z ↦ not_both (noted_rank p st (rank_of p b)) twin z.1 ])
          (λ c h. inl (old_4 c h)) (λ c h _. inl h) before.marks;
      anchor = anchor_stays p w v i g s _ _ before.anchor;
    }

  -- the first block of a rank
  module _ (first : noted_rank p st (rank_of p b) ≡ false) where
    alone : (c : ℕ) → st.noted c ≡ true → rank_of p c ≡ rank_of p b → ⊥
    alone c hc q = not_both (of_rank c) (and_from _ _ hc (eq-eqb (rank_of p c) (rank_of p b) q))
        (none_below of_rank (numbers p) first c (in_it.noted_ok c hc).in_range)

    sealed_now : has (seals p w (echo s b)) (notarization_share s b) ≡ true
    sealed_now = by_sealed p w (echo s b) (notarization_share s b) (refl, first)

    new : NotedOk p v s st.round b
    new = record {
      seal_made = or_left _ _ sealed_now;
      share_posted = or_left _ _ (has_right (passed_on p w s b) (seals p w (echo s b)) (notarization_share s b) sealed_now);
      of_round = ok.of_round;
      in_range = (i.blocks b is_made).last;
    }

    also_noted : (c : ℕ) → PastOrMarked p st.phase st.round c (st.noted c) → PastOrMarked p st.phase st.round c (put b true st.noted c)
    also_noted c (inl l) = inl l
    also_noted c (inr x) = inr (x.0, x.1, put_each (λ j z. z ≡ true) b true st.noted c refl x.2)

    abbrev New : ℕ → Type 0
    New = New2 p w v i g s st.phase st.phase st.round st.round st.proposed st.proposed st.noted (put b true st.noted)

    new_mark : (c : ℕ) → b ≡ c → New c
    new_mark c e = subst New e
        (backed, rw ok.inside (omega (arith, ok.of_round)), inr (ok.inside, ok.of_round, put_here b true st.noted))

    noted_seat : SeatOk p v s (noting b st)
    noted_seat = record {
      stage = stage_stays p w v i g s _ _ before.stage;
      inside = λ _. record {
        next_share = in_it.next_share;
        noted_ok = λ c. put_each (λ j z. z ≡ true → NotedOk p v s st.round j) b true st.noted c (λ _. new) (in_it.noted_ok c);
        noted_once = λ c d. put_each (λ i y. y ≡ true → put b true st.noted d ≡ true → rank_of p i ≡ rank_of p d → i ≡ d) b true st.noted c
            (λ _. put_each (λ j z. z ≡ true → rank_of p b ≡ rank_of p j → b ≡ j) b true st.noted d
            (λ _ _. refl) (λ h q. absurd (alone d h (sym q))))
            (λ hc. put_each (λ j z. z ≡ true → rank_of p c ≡ rank_of p j → c ≡ j) b true st.noted d
            (λ _ q. absurd (alone c hc q)) (λ h q. in_it.noted_once c d hc h q));
        disqualified_ok = in_it.disqualified_ok;
        proposed_ok = in_it.proposed_ok;
      };
      marks = marks_move p w v i g s st.phase st.phase st.round st.round st.proposed st.proposed st.noted (put b true st.noted)
          (omega arith) also_noted (λ c h. h)
          (λ c h. elim (new_2 c h) [ inl o ↦ inl o | inr z ↦ inr (new_mark c z.0) ])
          (λ c h. inl (old_4 c h)) (λ c h _. inl h) before.marks;
      anchor = anchor_stays p w v i g s _ _ before.anchor;
    }

  echoed : Duties p w (echo s b)
  echoed = record {
    grows = g;
    blocks = λ c h. inl h;
    arrive = arrives;
    sent = sends;
    seat = λ _. cond_both (noted_rank p st (rank_of p b)) (disqualifying (rank_of p b) st) (noting b st) (SeatOk p v s) disqualified_seat noted_seat;
  }

pub echo_meets : (p : Plan) (w : World) → Inv p w → (s b : ℕ) → verdict p w (echo s b) ≡ accepted → Duties p w (echo s b)
echo_meets p w i s b h = echoed p w i s b (echo_met p w s b h)
