-- The searches of an echo: one block at a time, in the order by rank and then by number.
use Rattle.std.proofs.Common.{◌≡◌, ℕ, ◌+◌, ◌*◌, ◌/◌, ◌%◌, ◌<◌, min, Bool, true, false, cond, ◌||◌, eqb, map, Option, Some, None, sym, refl, ap, ◌∙◌, arith}
use Rattle.std.specs.Option.{MatchOption, option_map}
use Rattle.std.specs.List.{find as list_find, range_with_len}
use Rattle.std.proofs.lemmas.Bool.{cond-true, cond-false, ne_eqb}
use native.Mathlib.Decide.{dec_lt}
use Rattle.basics.specs.Count.{some_below, first_below}
use Rattle.basics.specs.Numbers.{only_if, block_value}
use Rattle.basics.specs.declared.numbers.BlockNumber.{BlockNumber}
use Rattle.model.specs.Setup.{Lawful, round_of, number, holder, in_order}
use Rattle.model.specs.Setup.{Plan as Model}
use Rattle.model.proofs.Numbering.{number_out}
use Rattle.model.proofs.Searches.{find, first_at, first_found, first_none, none_below, no_below}
use Rattle.model.proofs.Tests.{not_both}
use Rattle.tree.specs.declared.tree.Tree.{Tree}
use Rattle.plans.specs.Planned.{held_by}
use Rattle.seats.specs.declared.seat.Seat.{Seat}
use Rattle.seats.specs.Searches.{better_in, best_in, best_in_rank, block_of_rank}

-- what was found says whether there was any
pub none_found : (b : Bool) (h : ℕ) → None ≡ only_if b h → b ≡ false
none_found true h e = let z : ◌≡◌ {A = ℕ} 0 1 = cc in absurd (omega arith)
none_found false h e = refl

pub some_found : (b : Bool) (h v : ℕ) → Some v ≡ only_if b h → (b ≡ true) × (v ≡ h)
some_found true h v e = (refl, cc)
some_found false h v e = let z : ◌≡◌ {A = ℕ} 0 1 = cc in absurd (omega arith)

three_cases : (n : ℕ → ℕ) (a b d : Bool) → cond a (Some (n 0)) (cond b (Some (n 1)) (cond d (Some (n 2)) None))
    ≡ only_if (((false || a) || b) || d) (n (cond ((false || a) || b) (cond (false || a) (cond false 0 (cond a 0 1)) (cond b 1 2)) (cond d 2 3)))
three_cases n true true true = refl
three_cases n true true false = refl
three_cases n true false true = refl
three_cases n true false false = refl
three_cases n false true true = refl
three_cases n false true false = refl
three_cases n false false true = refl
three_cases n false false false = refl

value_inside : (o : Option BlockNumber) → block_value o ≡ option_map (λ (b : BlockNumber). b.value) o
value_inside None = refl
value_inside (Some b) = refl

module _ (p : Model) (t : Tree) (x : Seat) (r : ℕ) where
  -- a block of another round is no better one
  elsewhere : (c : ℕ) → eqb (round_of p c) x.progress.round.value ≡ false → better_in p t x r c ≡ false
  unfolding better_in
  elsewhere c e = grind arith

  -- a rank that no seat has gives no better block
  pub none_holds : Lawful p → (q : ℕ) → None ≡ held_by p x.progress.round.value q → None ≡ best_in_rank p t x r q
  unfolding best_in_rank
  none_holds law q none =
      let k = x.progress.round.value in
      let has : ℕ → Bool = λ s. eqb (p.rank k s) q in
      let nobody : some_below has p.n ≡ false = none_found (some_below has p.n) (holder p k q) none in
      let out : (v : ℕ) → round_of p (block_of_rank p x q v) ≡ k + 1 =
      (λ v. ap (λ s. round_of p (number p k s (min v 2))) (first_none has p.n nobody) ∙ number_out p k (min v 2) law x.progress.round.first (omega arith)) in
      let f : ℕ → Bool = λ v. better_in p t x r (block_of_rank p x q v) in
      let none_better : some_below f 3 ≡ false =
      no_below f 3 (λ v _ y. not_both (f v) y (elsewhere (block_of_rank p x q v) (ne_eqb _ _ (λ e. omega (arith, out v, e))))) in
      sym (ap (λ b. only_if b (block_of_rank p x q (first_below f 3))) none_better)

  -- the first better one of the holder's three blocks
  pub first_of_rank : (q m : ℕ) → Some m ≡ held_by p x.progress.round.value q → (o : Option BlockNumber)
      → option_map (λ (b : BlockNumber). b.value) o ≡ list_find (better_in p t x r) (map (λ v. number p x.progress.round.value m (min v 2)) (range_with_len 0 3))
      → block_value o ≡ best_in_rank p t x r q
  unfolding best_in_rank
  first_of_rank q m held o found =
      let n = block_of_rank p x q in
      let better = better_in p t x r in
      let at = some_found (some_below (λ s. eqb (p.rank x.progress.round.value s) q) p.n) (holder p x.progress.round.value q) m held in
      value_inside o ∙ found
      ∙ ap (λ (s : ℕ). list_find better (map (λ (v : ℕ). number p x.progress.round.value s (min v 2)) (range_with_len 0 3))) at.1
      ∙ three_cases n (better (n 0)) (better (n 1)) (better (n 2))

  none_of_rank : (q : ℕ) → None ≡ best_in_rank p t x r q → (v : ℕ) → v < 3 → better_in p t x r (block_of_rank p x q v) ≡ false
  unfolding best_in_rank
  none_of_rank q e = none_below (λ v. better_in p t x r (block_of_rank p x q v)) 3 (none_found _ _ e)

  some_of_rank : (q y : ℕ) → Some y ≡ best_in_rank p t x r q
      → (v : ℕ) × (v < 3) × (y ≡ block_of_rank p x q v) × (better_in p t x r (block_of_rank p x q v) ≡ true) × ((u : ℕ) → u < v → better_in p t x r (block_of_rank p x q u) ≡ false)
  unfolding best_in_rank
  some_of_rank q y e =
      let f : ℕ → Bool = λ v. better_in p t x r (block_of_rank p x q v) in
      let found = some_found (some_below f 3) (block_of_rank p x q (first_below f 3)) y e in
      let first = first_found f 3 found.0 in
      (first_below f 3, first.0, found.1, first.1, first.2)

  -- whether the j-th block of the round is better
  abbrev pub better_nth : ℕ → Bool
  better_nth j = better_in p t x r (in_order p x.progress.round.value j)

  pub nth : (q v : ℕ) → v < 3 → in_order p x.progress.round.value (3 * q + v) ≡ block_of_rank p x q v
  nth q v h =
      let a : (3 * q + v) / 3 ≡ q = omega arith in
      let b : (3 * q + v) % 3 ≡ min v 2 = omega arith in
      λ i. number p x.progress.round.value (holder p x.progress.round.value (a i)) (b i)

  nth_is : (j : ℕ) → better_nth j ≡ better_in p t x r (block_of_rank p x (j / 3) (j % 3))
  nth_is j =
      let e : j % 3 ≡ min (j % 3) 2 = omega arith in
      ap (λ (v : ℕ). better_in p t x r (number p x.progress.round.value (holder p x.progress.round.value (j / 3)) v)) e

  -- no better block is of a rank below q, or of the rank q and a variant below v
  none_before : (q v : ℕ) → v < 3 → ((k : ℕ) → k < q → None ≡ best_in_rank p t x r k) → ((u : ℕ) → u < v → better_in p t x r (block_of_rank p x q u) ≡ false)
      → some_below better_nth (3 * q + v) ≡ false
  none_before q v h lower here =
      no_below better_nth (3 * q + v) (λ j low y.
      let below : better_in p t x r (block_of_rank p x (j / 3) (j % 3)) ≡ false = elim (dec_lt (j / 3) q) [
        | yes l ↦ none_of_rank (j / 3) (lower (j / 3) l) (j % 3) (omega arith)
        | no g ↦ (let e : j / 3 ≡ q = omega arith in ap (λ (k : ℕ). better_in p t x r (block_of_rank p x k (j % 3))) e ∙ here (j % 3) (omega arith))
      ] in
      not_both (better_nth j) y (nth_is j ∙ below))

  best_found : (q y : ℕ) → q < r → Some y ≡ best_in_rank p t x r q → ((k : ℕ) → k < q → None ≡ best_in_rank p t x r k) → Some y ≡ best_in p t x r
  unfolding best_in better_in
  best_found q y below e lower =
      let s = some_of_rank q y e in
      let v = s.0 in
      let in_reach : 3 * q + v < 3 * r = omega (arith, s.1) in
      let turn = nth q v s.1 in
      let here : better_nth (3 * q + v) ≡ true = ap (better_in p t x r) turn ∙ s.3 in
      let there = find better_nth (3 * r) (3 * q + v) in_reach here in
      let first = first_at better_nth (3 * r) (3 * q + v) in_reach (none_before q v s.1 lower s.4) here in
      ap Some (s.2 ∙ sym turn) ∙ sym (cond-true (some_below better_nth (3 * r)) _ _ there ∙ ap (λ j. Some (in_order p x.progress.round.value j)) first)

  best_none : ((k : ℕ) → k < r → None ≡ best_in_rank p t x r k) → None ≡ best_in p t x r
  unfolding best_in better_in
  best_none none =
      let e : 3 * r + 0 ≡ 3 * r = omega arith in
      let nowhere = ap (some_below better_nth) (sym e) ∙ none_before r 0 (omega arith) none (λ u l. absurd (omega arith)) in
      sym (cond-false (some_below better_nth (3 * r)) _ _ nowhere)

  -- the first rank with a better block
  pub best_from : (o : Option BlockNumber)
      → MatchOption o ((k : ℕ) → k < r → None ≡ best_in_rank p t x r k) (λ y. (q : ℕ) × (q < r) × (Some y.value ≡ best_in_rank p t x r q) × ((k : ℕ) → k < q → None ≡ best_in_rank p t x r k))
      → block_value o ≡ best_in p t x r
  best_from None h = best_none h
  best_from (Some y) h = best_found h.0 y.value h.1 h.2 h.3
