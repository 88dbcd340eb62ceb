-- Searches below a bound: what is found or not, the first, the lowest of those found, one answer for all.
use Rattle.std.proofs.Common.{◌≡◌, ℕ, zero, suc, ◌+◌, ◌<◌, ◌≤◌, Bool, true, false, cond, ◌||◌, ◌⊎◌, sym, refl, ap, ◌∙◌, subst, ap₂, inl, inr, le_refl, add-one, arith}
use native.Mathlib.Decide.{dec_lt, dec_le}
use Rattle.std.proofs.lemmas.Bool.{cases_Bool, or_cases, or_parts}
use Rattle.basics.specs.Count.{some_below, first_below}
use Rattle.model.proofs.Tests.{not_both}

-- below suc n is below n, or n
below_suc : (k n : ℕ) → k < suc n → (k < n) ⊎ (k ≡ n)
below_suc k n h = elim (dec_lt k n) [ yes l ↦ inl l | no g ↦ inr (omega arith) ]

-- what holds below n and at n holds below suc n
below_more : (P : ℕ → Type 0) (n : ℕ) → ((k : ℕ) → k < n → P k) → P n → (k : ℕ) → k < suc n → P k
below_more P n under here k h = elim (below_suc k n h) [ inl l ↦ under k l | inr e ↦ subst P (sym e) here ]

abbrev pub Found : (ℕ → Bool) → ℕ → Type 0
Found f n = (k : ℕ) × (k < n) × (f k ≡ true)

pub found : (f : ℕ → Bool) (n : ℕ) → some_below f n ≡ true → Found f n
found f zero h = not_both false h refl
found f (suc n) h =
    elim (or_cases (some_below f n) (f n) h) [ inl x ↦ (let r = found f n x in (r.0, omega arith, r.2)) | inr y ↦ (n, omega arith, y) ]

pub none_below : (f : ℕ → Bool) (n : ℕ) → some_below f n ≡ false → (k : ℕ) → k < n → f k ≡ false
none_below f zero h k l = absurd (omega arith)
none_below f (suc n) h k l =
    let r = or_parts (some_below f n) (f n) h in
    below_more (λ k. f k ≡ false) n (none_below f n r.0) r.1 k l

pub find : (f : ℕ → Bool) (n k : ℕ) → k < n → f k ≡ true → some_below f n ≡ true
find f n k l h = elim (cases_Bool (some_below f n)) [ inl y ↦ y | inr e ↦ not_both (f k) h (none_below f n e k l) ]

pub no_below : (f : ℕ → Bool) (n : ℕ) → ((k : ℕ) → k < n → f k ≡ true → ⊥) → some_below f n ≡ false
no_below f n h = elim (cases_Bool (some_below f n)) [ inl y ↦ (let r = found f n y in absurd (h r.0 r.1 r.2)) | inr e ↦ e ]

-- the first that is found
abbrev pub FoundFirst : (ℕ → Bool) → ℕ → ℕ → Type 0
FoundFirst f n i = (i < n) × (f i ≡ true) × ((j : ℕ) → j < i → f j ≡ false)

first_step : (f : ℕ → Bool) (n : ℕ) (x y : Bool) → some_below f n ≡ x → f n ≡ y → (some_below f n ≡ true → FoundFirst f n (first_below f n)) →
    (x ≡ true) ⊎ (y ≡ true) → FoundFirst f (suc n) (cond x (first_below f n) (cond y n (suc n)))
first_step f n true y p q below h = let r = below p in (omega (arith, r.0), r.1, r.2)
first_step f n false true p q below h = (omega arith, q, λ j l. none_below f n p j l)
first_step f n false false p q below h = elim h [ inl e ↦ not_both false e refl | inr e ↦ not_both false e refl ]

pub first_found : (f : ℕ → Bool) (n : ℕ) → some_below f n ≡ true → FoundFirst f n (first_below f n)
first_found f zero h = not_both false h refl
first_found f (suc n) h = first_step f n (some_below f n) (f n) refl refl (first_found f n) (or_cases (some_below f n) (f n) h)

pub first_none : (f : ℕ → Bool) (n : ℕ) → some_below f n ≡ false → first_below f n ≡ n
first_none f zero h = refl
first_none f (suc n) h = let r = or_parts (some_below f n) (f n) h in rw (r.0, r.1)

-- one below which there is none is the first
pub first_at : (f : ℕ → Bool) (n i : ℕ) → i < n → some_below f i ≡ false → f i ≡ true → first_below f n ≡ i
first_at f n i l none here =
    let r = first_found f n (find f n i l here) in
    elim (dec_lt (first_below f n) i) [
      | yes below ↦ not_both (f (first_below f n)) r.1 (none_below f i none (first_below f n) below)
      | no g ↦ elim (dec_lt i (first_below f n)) [ yes above ↦ not_both (f i) here (r.2 i above) | no h ↦ omega arith ]
    ]

-- none below i, and none at i
pub none_more : (f : ℕ → Bool) (i : ℕ) → some_below f i ≡ false → f i ≡ false → some_below f (i + 1) ≡ false
none_more f i a b = ap (some_below f) (add-one i) ∙ ap₂ ◌||◌ a b

-- of those found, one whose measure is lowest
abbrev pub Lowest : (ℕ → Bool) → (ℕ → ℕ) → ℕ → Type 0
Lowest f m n = (k : ℕ) × (k < n) × (f k ≡ true) × ((j : ℕ) → j < n → f j ≡ true → m k ≤ m j)

lower : (f : ℕ → Bool) (m : ℕ → ℕ) (n : ℕ) → Lowest f m n → (f n ≡ true) ⊎ (f n ≡ false) → Lowest f m (suc n)
lower f m n r (inr e) =
    (r.0, omega arith, r.2, below_more (λ j. f j ≡ true → m r.0 ≤ m j) n r.3 (λ y. not_both (f n) y e))
lower f m n r (inl y) = elim (dec_le (m r.0) (m n)) [
  | yes l ↦ (r.0, omega arith, r.2, below_more (λ j. f j ≡ true → m r.0 ≤ m j) n r.3 (λ _. l))
  | no g ↦ (n, omega arith, y, below_more (λ j. f j ≡ true → m n ≤ m j) n (λ j lj yj. let q : m r.0 ≤ m j = r.3 j lj yj in omega arith) (λ _. le_refl _))
]

pub lowest : (f : ℕ → Bool) (m : ℕ → ℕ) (n : ℕ) → some_below f n ≡ true → Lowest f m n
lowest f m zero h = not_both false h refl
lowest f m (suc n) h = elim (cases_Bool (some_below f n)) [
  | inl y ↦ lower f m n (lowest f m n y) (cases_Bool (f n))
  | inr e ↦ elim (or_cases (some_below f n) (f n) h) [
    | inl y ↦ not_both (some_below f n) y e
    | inr y ↦ (n, omega arith, y, below_more (λ j. f j ≡ true → m n ≤ m j) n (λ j lj yj. not_both (f j) yj (none_below f n e j lj)) (λ _. le_refl _))
  ]
]

-- one answer for all below n, or the way out
pub all_or_out : {A : Type 0} (P : ℕ → Type 0) (n : ℕ) → ((k : ℕ) → k < n → A ⊎ P k) → A ⊎ ((k : ℕ) → k < n → P k)
all_or_out P zero h = inr (λ k l. absurd (omega arith))
all_or_out P (suc n) h = elim (h n (omega arith)) [
  | inl a ↦ inl a
  | inr here ↦ elim (all_or_out P n (λ k l. h k (omega arith))) [ inl a ↦ inl a | inr under ↦ inr (below_more P n under here) ]
]
