-- The calls that make a block meet their duties: forge and propose.
use Rattle.std.proofs.Common.{◌≡◌, ℕ, ◌+◌, ◌-◌, ◌<◌, ◌≤◌, Bool, true, false, cond, ◌⊎◌, List, ◌∷◌, sym, refl, ◌∙◌, subst, inl, inr, arith}
use Rattle.std.proofs.lemmas.Bool.{or_left, cases_Bool}
use Rattle.model.specs.Setup.{Plan, honest, number, round_of, maker_of}
use Rattle.model.specs.World.{World, Seat, block, notarization, exists}
use Rattle.model.specs.Checks.{verdict, made_in}
use Rattle.model.specs.Checks.Call.{propose, forge}
use Rattle.model.specs.Checks.Verdict.{accepted}
use Rattle.model.specs.Seats.{having_proposed}
use Rattle.model.specs.Effects.{effect, parent_notarization, proposal, forgery}
use Rattle.model.proofs.Tests.{Each, has_first, not_both, put_each, put_here}
use Rattle.model.proofs.Numbering.{number_pos, number_variant, number_maker, number_round, number_below}
use Rattle.model.proofs.Accepted.{Known, Proposes, Forges, propose_met, forge_met}
use Rattle.model.proofs.Growth.{Grows, BlockOk, Backed, known_stays, chain_stays}
use Rattle.model.proofs.Existence.{exists_grows}
use Rattle.model.proofs.Ranges.{Fits, fits_grows, block_fits, notarization_fits}
use Rattle.model.proofs.Invariant.{PastOrMarked, Own, SeatOk, Inv}
use Rattle.model.proofs.Pools.{notarized_exists}
use Rattle.model.proofs.Stays.{stage_stays, inside_stays, marks_move, anchor_stays}
use Rattle.model.proofs.ParentNotarization.{parent_notarization_each, parent_notarization_has}
use Rattle.model.proofs.Duties.{Duties, block_grows, effect_grows}

-- a new block over a known parent of the round before, its variant the next
new_block : (p : Plan) (w v : World) → Grows w v → (i : Inv p w) → (k s u par : ℕ) → v.parent (number p k s u) ≡ par →
    1 ≤ k → k ≤ p.rounds → s < p.n → u < 3 → Known w par → round_of p par + 1 ≡ k →
    ((u ≡ 0 → ⊥) → w.made (number p k s u - 1) ≡ true) → BlockOk p v (number p k s u)
new_block p w v g i k s u par e one high below room known r next = record {
  first = number_pos p k s u;
  last = number_below p k s u one high below room;
  parent_known = rw e (known_stays p w v g i.blocks par known);
  parent_round = rw e (r ∙ sym (number_round p k s u one below room));
  variants_before = λ n. g.made_stays (number p k s u - 1) (next (λ z. n (number_variant p k s u room ∙ z)));
}

-- The next variant of a maker in a round: the first that is not made.
module _ (p : Plan) (w : World) (i : Inv p w) (k s : ℕ) where
  before : (u : ℕ) → u + 1 < 3 → w.made (number p k s (u + 1)) ≡ true → w.made (number p k s u) ≡ true
  before u l h =
      let m = (i.blocks (number p k s (u + 1)) h).variants_before (λ z. let q = number_variant p k s (u + 1) l in omega arith) in
      subst (λ (b : ℕ). w.made b ≡ true) (omega arith) m

  abbrev Next : ℕ → Type 0
  Next u = (w.made (number p k s u) ≡ false) × ((u ≡ 0 → ⊥) → w.made (number p k s u - 1) ≡ true)

  next_free : made_in p w s k < 3 → Next (made_in p w s k)
  next_free = go (w.made (number p k s 0)) (w.made (number p k s 1)) (w.made (number p k s 2)) refl refl refl
    where
      less : (u : ℕ) → w.made (number p k s u) ≡ true → (u + 1 ≡ 0 → ⊥) → w.made (number p k s (u + 1) - 1) ≡ true
      less u h _ = subst (λ (b : ℕ). w.made b ≡ true) (omega arith) h

      go : (x y z : Bool) → w.made (number p k s 0) ≡ x → w.made (number p k s 1) ≡ y → w.made (number p k s 2) ≡ z →
          0 + cond x 1 0 + cond y 1 0 + cond z 1 0 < 3 → Next (0 + cond x 1 0 + cond y 1 0 + cond z 1 0)
      go true true true a b c l = absurd (omega arith)
      go true true false a b c l = (c, less 1 b)
      go true false true a b c l = not_both (w.made (number p k s 1)) (before 1 (omega arith) c) b
      go true false false a b c l = (b, less 0 a)
      go false true z a b c l = not_both (w.made (number p k s 0)) (before 0 (omega arith) b) a
      go false false true a b c l = not_both (w.made (number p k s 1)) (before 1 (omega arith) c) b
      go false false false a b c l = (a, λ n. absurd (n refl))

pub forge_meets : (p : Plan) (w : World) → Inv p w → (s k par : ℕ) (xs : List ℕ) →
    verdict p w (forge s k par xs) ≡ accepted → Duties p w (forge s k par xs)
forge_meets p w i s k par xs h = record {
  grows = g;
  blocks = λ c. put_each (λ j y. y ≡ true → (w.made j ≡ true) ⊎ (BlockOk p v j × (maker_of p j ≡ s))) b true w.made c
      (λ _. inr (new, number_maker p k s u ok.below ok.room)) (λ e. inl e);
  arrive = tt;
  sent = tt;
  seat = λ a. not_both (honest p s) a.honest_seat ok.corrupt_seat;
}
  where
    ok : Forges p w s k par
    ok = forge_met p w s k par xs h

    u : ℕ
    u = made_in p w s k

    b : ℕ
    b = forgery p w s k

    v : World
    v = effect p w (forge s k par xs)

    next : Next p w i k s u
    next = next_free p w i k s ok.room

    g : Grows w v
    g = effect_grows p w (forge s k par xs) (block_grows b par xs w next.0)

    new : BlockOk p v b
    new = new_block p w v g i k s u par (put_here b par w.parent)
        ok.from_one ok.to_last ok.below ok.room ok.parent_known ok.next_round next.1

module _ (p : Plan) (w : World) (i : Inv p w) (s par : ℕ) (xs : List ℕ) (ok : Proposes p w s par xs) where
  abbrev st : Seat
  st = w.seat s

  abbrev k : ℕ
  k = (w.seat s).round

  abbrev b : ℕ
  b = proposal p w s

  abbrev v : World
  v = effect p w (propose s par xs)

  was : SeatOk p w s st
  was = i.seats s ok.acts

  b_round : round_of p b ≡ k
  b_round = number_round p k s 0 was.stage.from_one ok.acts.below (omega arith)

  b_maker : maker_of p b ≡ s
  b_maker = number_maker p k s 0 ok.acts.below (omega arith)

  free : w.made b ≡ false
  free = elim (cases_Bool (w.made b)) [
    | inr e ↦ e
    | inl m ↦ elim (was.marks.own b m b_maker).used [
      | inl l ↦ let z : round_of p b < k = rw ok.inside at l in absurd (omega (arith, b_round))
      | inr x ↦ not_both st.proposed x.2 ok.unproposed
    ]
  ]

  g : Grows w v
  g = effect_grows p w (propose s par xs) (block_grows b par xs w free)

  b_made : v.made b ≡ true
  b_made = put_here b true w.made

  b_parent : v.parent b ≡ par
  b_parent = put_here b par w.parent

  b_ok : BlockOk p v b
  b_ok = new_block p w v g i k s 0 par b_parent
      was.stage.from_one was.stage.to_last ok.acts.below (omega arith) ok.parent_known ok.next_round (λ n. absurd (n refl))

  arrives : Each (λ m. exists p v m ≡ true) (block b ∷ parent_notarization par)
  arrives = (
    b_made,
    parent_notarization_each _ par
        (λ d. exists_grows p w v g (notarization par) (notarized_exists p w i s (round_of p par) par ok.parent_notarized d)),
  )

  sends : Each (Fits p v) (block b ∷ parent_notarization par)
  sends = (
    block_fits p v b b_ok b_made,
    parent_notarization_each (Fits p v) par (λ d. fits_grows p w v g (notarization par) (elim ok.parent_known [
      | inl e ↦ absurd (d e)
      | inr m ↦ notarization_fits p w par (i.blocks par m) m
    ])),
  )

  b_backed : Backed p v b
  b_backed =
      let same = chain_stays p w v g i.blocks (round_of p par) par ok.parent_known refl in
      record {
        is_made = b_made;
        block_posted = or_left _ _ (has_first (block b) (parent_notarization par));
        parent_posted = rw b_parent (elim (parent_notarization_has par) [ inl z ↦ inl z | inr y ↦ inr (or_left _ _ y) ]);
        payload = rw (b_parent, put_here b xs w.places, same.0, same.1) ok.payload;
      }

  b_own : Own p v st.phase k true b
  b_own = record { backed = b_backed; first_variant = number_variant p k s 0 (omega arith); used = inr (ok.inside, b_round, refl) }

  marked : (c : ℕ) → PastOrMarked p st.phase k c st.proposed → PastOrMarked p st.phase k c true
  marked c (inl l) = inl l
  marked c (inr x) = inr (x.0, x.1, refl)

  becomes : SeatOk p v s (having_proposed st)
  becomes = record {
    stage = stage_stays p w v i g s _ _ was.stage;
    inside = λ e. let y = inside_stays p w v i g s _ _ _ _ (was.inside e) in record {
      next_share = y.next_share;
      noted_ok = y.noted_ok;
      noted_once = y.noted_once;
      disqualified_ok = y.disqualified_ok;
      proposed_ok = λ _. b_made;
    };
    marks = marks_move p w v i g s st.phase st.phase k k st.proposed true st.noted st.noted (omega arith)
        (λ c h. h) marked (λ c h. inl h) (λ c h. inl h)
        (λ c h _. put_each (λ j y. y ≡ true → (w.made j ≡ true) ⊎ Own p v st.phase k true j) b true w.made c
        (λ _. inr b_own) (λ e. inl e) h) was.marks;
    anchor = anchor_stays p w v i g s _ _ was.anchor;
  }

  proposed : Duties p w (propose s par xs)
  proposed = record {
    grows = g;
    blocks = λ c. put_each (λ j y. y ≡ true → (w.made j ≡ true) ⊎ (BlockOk p v j × (maker_of p j ≡ s))) b true w.made c
        (λ _. inr (b_ok, b_maker)) (λ e. inl e);
    arrive = arrives;
    sent = sends;
    seat = λ _. becomes;
  }

pub propose_meets : (p : Plan) (w : World) → Inv p w → (s par : ℕ) (xs : List ℕ) →
    verdict p w (propose s par xs) ≡ accepted → Duties p w (propose s par xs)
propose_meets p w i s par xs h = proposed p w i s par xs (propose_met p w s par xs h)
