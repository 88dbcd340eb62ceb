-- The search for a better block runs through a round's blocks by rank, then by number: it misses none, and names the first.
use Rattle.std.proofs.Common.{◌≡◌, ℕ, zero, suc, ◌+◌, ◌-◌, ◌*◌, ◌/◌, ◌%◌, ◌<◌, ◌≤◌, Bool, true, false, eqb, ltb, ◌⊎◌, sym, refl, ap, ◌∙◌, subst, inl, inr, mod-lt, arith}
use lib.Arith.{digits_div, digits_mod}
use Rattle.std.proofs.lemmas.Bool.{and_parts, cases_Bool, cases_lt, cases_order, eqb-true, eq-eqb, ltb-true}
use Rattle.basics.specs.Count.{some_below, first_below}
use Rattle.model.specs.Setup.{Plan, Lawful, number, round_of, maker_of, rank_of, holder, in_order}
use Rattle.model.specs.Checks.{better, some_better, first_better}
use Rattle.model.specs.Promises.{NotAfter, BetterIsNamed}
use Rattle.model.proofs.Accepted.{acting}
use Rattle.model.proofs.Tests.{not_both}
use Rattle.model.proofs.Searches.{find, first_found, first_none}
use Rattle.model.proofs.Numbering.{number_pos, number_round, number_maker, number_variant, number_out, maker_below, same_number}
use Rattle.model.proofs.Always.{always}

module _ (p : Plan) (l : Lawful p) (k : ℕ) (k_one : 1 ≤ k) where
  -- the seat of a rank
  holder_of : (s : ℕ) → s < p.n → holder p k (p.rank k s) ≡ s
  holder_of s below =
      let f : ℕ → Bool = λ x. eqb (p.rank k x) (p.rank k s) in
      let r = first_found f p.n (find f p.n s below (eq-eqb _ _ refl)) in
      l.rank_once k (first_below f p.n) s r.0 below (eqb-true _ _ r.1)

  -- the place of a block in its round's order
  abbrev place : ℕ → ℕ
  place c = rank_of p c * 3 + (c - 1) % 3

  variant_below : (c : ℕ) → (c - 1) % 3 < 3
  variant_below c = mod-lt (c - 1) (omega arith)

  above_root : (c : ℕ) → round_of p c ≡ k → 1 ≤ c
  above_root zero r = absurd (omega arith)
  above_root (suc c) r = omega arith

  number_place : (c : ℕ) → round_of p c ≡ k → number p k (holder p k (rank_of p c)) ((c - 1) % 3) ≡ c
  number_place c r =
      let u = variant_below c in
      let m = maker_below p c l in
      let h : holder p k (rank_of p c) ≡ maker_of p c = ap (λ (z : ℕ). holder p k (p.rank z (maker_of p c))) r ∙ holder_of (maker_of p c) m in
      rw h (same_number p (number p k (maker_of p c) ((c - 1) % 3)) c (number_pos p k _ _) (above_root c r)
      (number_round p k (maker_of p c) _ k_one m u ∙ sym r) (number_maker p k (maker_of p c) _ m u) (number_variant p k (maker_of p c) _ u))

  in_order_place : (c : ℕ) → round_of p c ≡ k → in_order p k (place c) ≡ c
  in_order_place c r = rw (digits_div (rank_of p c) (variant_below c), digits_mod (rank_of p c) (variant_below c)) (number_place c r)

  -- a number of the order that is of the round stands at its place
  place_in_order : (j : ℕ) → round_of p (in_order p k j) ≡ k → (rank_of p (in_order p k j) ≡ j / 3) × ((in_order p k j - 1) % 3 ≡ j % 3)
  place_in_order j r = elim (cases_Bool (some_below (λ s. eqb (p.rank k s) (j / 3)) p.n)) [
    | inl y ↦ (let x = first_found (λ s. eqb (p.rank k s) (j / 3)) p.n y in (
      (λ n. p.rank (r n) (number_maker p k (holder p k (j / 3)) (j % 3) x.0 (mod-lt j (omega arith)) n)) ∙ eqb-true _ _ x.1,
      number_variant p k (holder p k (j / 3)) (j % 3) (mod-lt j (omega arith)),
    ))
    | inr e ↦ (let h : holder p k (j / 3) ≡ p.n = first_none (λ s. eqb (p.rank k s) (j / 3)) p.n e in
        let o : round_of p (in_order p k j) ≡ k + 1 = rw h (number_out p k (j % 3) l k_one (mod-lt j (omega arith))) in
        absurd (omega arith))
  ]

pub better_is_named : (p : Plan) → Lawful p → BetterIsNamed p
better_is_named p l js w kept s r c below honest_seat h = (some, first.1, order (cases_order (first_index / 3) (rank_of p c)))
  where
    k : ℕ
    k = (w.seat s).round

    k_one : 1 ≤ k
    k_one = ((always p l js w kept).seats s (acting below honest_seat)).stage.from_one

    test : ℕ → Bool
    test j = better p w s r (in_order p k j)

    of_round : (d : ℕ) → better p w s r d ≡ true → round_of p d ≡ k
    of_round d e = eqb-true (round_of p d) k (and_parts (eqb (round_of p d) k) _ e).0

    rank_c : rank_of p c < r
    rank_c = ltb-true (rank_of p c) r (and_parts (ltb (rank_of p c) r) _ (and_parts (eqb (round_of p c) k) _ h).1).0

    at : ℕ
    at = place p l k k_one c

    at_c : test at ≡ true
    at_c = subst (λ (d : ℕ). better p w s r d ≡ true) (sym (in_order_place p l k k_one c (of_round c h))) h

    at_below : at < 3 * r
    at_below = omega (arith, variant_below p l k k_one c, rank_c)

    some : some_better p w s r ≡ true
    some = find test (3 * r) at at_below at_c

    first_index : ℕ
    first_index = first_below test (3 * r)

    first : (first_index < 3 * r) × (test first_index ≡ true) × ((j : ℕ) → j < first_index → test j ≡ false)
    first = first_found test (3 * r) some

    early : first_index ≤ at
    early = elim (cases_lt at first_index) [ inl x ↦ not_both (test at) at_c (first.2 at x) | inr x ↦ x ]

    named : (rank_of p (in_order p k first_index) ≡ first_index / 3) × ((in_order p k first_index - 1) % 3 ≡ first_index % 3)
    named = place_in_order p l k k_one first_index (of_round (in_order p k first_index) first.1)

    order : (first_index / 3 ≡ rank_of p c) ⊎ ((first_index / 3 < rank_of p c) ⊎ (rank_of p c < first_index / 3)) → NotAfter p (first_better p w s r) c
    order (inl e) =
        let x : first_better p w s r ≡ number p k (holder p k (rank_of p c)) (first_index % 3) = ap (λ (q : ℕ). number p k (holder p k q) (first_index % 3)) e in
        inr (named.0 ∙ e, omega (arith, x, number_place p l k k_one c (of_round c h), early))
    order (inr (inl x)) = inl (omega (arith, named.0))
    order (inr (inr x)) = absurd (omega (arith, early, variant_below p l k k_one c))
