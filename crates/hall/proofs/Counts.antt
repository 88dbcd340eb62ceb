-- The numbers below a bound as a list, and how many of them pass a test.
use Rattle.std.proofs.Common.{◌≡◌, ℕ, zero, suc, ◌+◌, Bool, true, false, cond, List, [], ◌∷◌, ◌++◌, length, refl, ap, ◌∙◌, sym, add-zero, arith}
use Rattle.std.proofs.lemmas.Iterator.{YieldsList, YieldsList-from_range}
use Rattle.std.proofs.iter.Yields.{nat_range_steps}
use Rattle.std.specs.List.{filter, range_with_len}
use Rattle.basics.specs.Count.{tally}

-- one number more is at the end
range_with_len-suc : (a n : ℕ) → range_with_len a (suc n) ≡ range_with_len a n ++ (a + n) ∷ []
range_with_len-suc a zero = ap (λ k. k ∷ []) (sym (add-zero a))
range_with_len-suc a (suc n) =
    let e : a + 1 + n ≡ a + suc n = omega arith in
    ap (λ l. a ∷ l) (range_with_len-suc (a + 1) n) ∙ ap (λ k. a ∷ (range_with_len (a + 1) n ++ k ∷ [])) e

-- the numbers that a range from 0 yields
pub range_below : (n : ℕ) → YieldsList nat_range_steps (λ x. x) (record { start = 0; end = n }) (range_with_len 0 n)
range_below n = YieldsList-from_range 0 n n refl (omega arith)

module _ (test : ℕ → Bool) where
  length-filter-append : (xs : List ℕ) (k : ℕ) → length (filter test (xs ++ k ∷ [])) ≡ length (filter test xs) + cond (test k) 1 0
  length-filter-append [] k = elim (test k) as (λ b. length (cond b (k ∷ []) []) ≡ 0 + cond b 1 0) [ true ↦ refl | false ↦ refl ]
  length-filter-append (x ∷ xs) k =
      let h = length-filter-append xs k in
      elim (test x) as (λ b. length (cond b (x ∷ filter test (xs ++ k ∷ [])) (filter test (xs ++ k ∷ []))) ≡ length (cond b (x ∷ filter test xs) (filter test xs)) + cond (test k) 1 0)
      [ true ↦ omega arith | false ↦ h ]

  pub length-filter-range : (n : ℕ) → length (filter test (range_with_len 0 n)) ≡ tally test n
  length-filter-range zero = refl
  length-filter-range (suc n) =
      ap (λ l. length (filter test l)) (range_with_len-suc 0 n) ∙ length-filter-append (range_with_len 0 n) (0 + n)
      ∙ (let e : 0 + n ≡ n = omega arith in ap (λ k. length (filter test (range_with_len 0 n)) + cond (test k) 1 0) e)
      ∙ ap (λ k. k + cond (test n) 1 0) (length-filter-range n)
