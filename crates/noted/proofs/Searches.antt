-- Flags that are raised one by one, and searches that look only where they are.
use Rattle.std.proofs.Common.{◌≡◌, ℕ, zero, suc, ◌+◌, ◌-◌, ◌<◌, ◌≤◌, min, Bool, true, false, ◌&&◌, ◌||◌, ◌⊎◌, List, [], ◌∷◌, ◌++◌, map, get_or, set, replicate, sym, refl, ap, ◌∙◌, ap₂, inl, inr, ⊎_elim, add-zero, add-suc, add-one, arith, get_or-set_other}
use Rattle.std.specs.List.{range_with_len, list_any}
use Rattle.std.proofs.lemmas.Bool.{and_parts, cases_eq, cases_lt, false_from_ne_true}
use Rattle.std.proofs.Math.Bool.{or-false}
use Rattle.std.proofs.lemmas.List.FromFn.{map-range_with_len_more}
use Rattle.std.proofs.lemmas.List.Folds.{list_any-append}
use Rattle.basics.specs.Count.{some_below}
use Rattle.noted.specs.Flags.{Raised}

-- a flag that is raised after one was raised is that one, or was raised before
pub raised_one : (flags : List Bool) (i : ℕ) (q : Raised (set flags i true)) → (q.at ≡ i) ⊎ (get_or flags q.at false ≡ true)
raised_one flags i q = ⊎_elim (λ e. inl e) (λ ne. inr (sym (get_or-set_other flags i q.at true false ne) ∙ q.is_raised)) (cases_eq q.at i)

-- in a table of lowered flags each is lowered
pub lowered : (n k : ℕ) → get_or (replicate n false) k false ≡ false
lowered zero k = refl
lowered (suc n) zero = refl
lowered (suc n) (suc k) = lowered n k

joined : (a x y : Bool) → (a || (x || (y || false))) ≡ ((a || x) || y)
joined true x y = refl
joined false true y = refl
joined false false true = refl
joined false false false = refl

-- a search below a bound, and then among the numbers from there on
any_from : (h : ℕ → ℕ) (f : ℕ → Bool) (a n : ℕ) → ((k : ℕ) → a ≤ k → k < a + n → h k ≡ k)
    → (some_below f a || list_any f (map h (range_with_len a n))) ≡ some_below f (a + n)
any_from h f a zero same = or-false (some_below f a) ∙ ap (some_below f) (sym (add-zero a))
any_from h f a (suc n) same =
    let xs = map h (range_with_len a n) in
    let more : map h (range_with_len a (suc n)) ≡ xs ++ h (a + n) ∷ [] = ap (λ m. map h (range_with_len a m)) (sym (add-one n)) ∙ map-range_with_len_more h a n (a + n) (omega arith) in
    ap (λ ys. some_below f a || list_any f ys) more
    ∙ ap (λ b. some_below f a || b) (list_any-append f xs (h (a + n) ∷ []))
    ∙ joined (some_below f a) (list_any f xs) (f (h (a + n)))
    ∙ ap₂ ◌||◌ (any_from h f a n (λ k le lt. same k le (omega arith))) (ap f (same (a + n) (omega arith) (omega arith)))
    ∙ ap (some_below f) (sym (add-suc a n))

-- past a bound from which none passes nothing more is found
some_past : (f : ℕ → Bool) (n j : ℕ) → ((k : ℕ) → n ≤ k → k < n + j → f k ≡ false) → some_below f (n + j) ≡ some_below f n
some_past f n zero h = ap (some_below f) (add-zero n)
some_past f n (suc j) h =
    ap (some_below f) (add-suc n j) ∙ ap₂ ◌||◌ (some_past f n j (λ k lo hi. h k lo (omega arith))) (h (n + j) (omega arith) (omega arith)) ∙ or-false (some_below f n)

-- what only raised flags can have is found among all numbers where it is found between two that they lie between
module _ (flags : List Bool) (f : ℕ → Bool) (low high : ℕ) (above : (q : Raised flags) → low ≤ q.at) (below : (q : Raised flags) → q.at < high) where
  has : ℕ → Bool
  has b = get_or flags b false && f b

  outside : (k : ℕ) → (k < low) ⊎ (high ≤ k) → has k ≡ false
  unfolding has
  outside k out = false_from_ne_true (has k) (λ h.
      let q : Raised flags = record { at = k; is_raised = (and_parts (get_or flags k false) (f k) h).0 } in
      ⊎_elim (λ (lt : k < low). let z : low ≤ k = above q in omega arith) (λ (le : high ≤ k). let z : k < high = below q in omega arith) out)

  same_past : (m n : ℕ) → m ≤ n → ((k : ℕ) → m ≤ k → k < n → (k < low) ⊎ (high ≤ k)) → some_below has n ≡ some_below has m
  same_past m n le out =
      let e : m + (n - m) ≡ n = omega arith in
      ap (some_below has) (sym e) ∙ some_past has m (n - m) (λ k lo hi. outside k (out k lo (omega arith)))

  pub found_between : (h : ℕ → ℕ) (n : ℕ) → ((k : ℕ) → k < high → h k ≡ k)
      → list_any (λ b. get_or flags b false && f b) (map h (range_with_len low (min high n - low))) ≡ some_below (λ b. get_or flags b false && f b) n
  unfolding has
  found_between h n same =
      let m : ℕ = low + (min high n - low) in
      let none : some_below has low ≡ false = same_past 0 low (omega arith) (λ k lo hi. inl hi) in
      let short : (k : ℕ) → low ≤ k → k < m → h k ≡ k = (λ k le lt. same k (omega arith)) in
      ap (λ b. b || list_any has (map h (range_with_len low (min high n - low)))) (sym none) ∙ any_from h has low (min high n - low) short
      ∙ ⊎_elim
      (λ (lt : m < n). sym (same_past m n (omega arith) (λ k lo hi. inr (omega arith))))
      (λ (le : n ≤ m). same_past n m le (λ k lo hi. inl (omega arith)))
      (cases_lt m n)
