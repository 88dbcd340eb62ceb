-- Counts below a bound: how they add, grow and overlap, and what quorums of a lawful plan share.
use Rattle.std.proofs.Common.{◌≡◌, ℕ, zero, suc, ◌+◌, ◌*◌, ◌<◌, ◌≤◌, Bool, true, false, cond, not, ◌&&◌, refl, ap, subst, arith}
use native.Mathlib.Decide.{dec_lt}
use Rattle.std.proofs.lemmas.Bool.{both_ways, not_from_false, and_parts}
use Rattle.basics.specs.Count.{tally}
use Rattle.model.specs.Setup.{Plan, Lawful, honest, quorum}

abbrev pub one_if : Bool → ℕ
one_if b = cond b 1 0

one_if_and : (a b : Bool) → one_if a + one_if b ≤ 1 + one_if (a && b)
one_if_and true true = omega arith
one_if_and true false = omega arith
one_if_and false true = omega arith
one_if_and false false = omega arith

one_if_grows : (a b : Bool) → (a ≡ true → b ≡ true) → one_if a ≤ one_if b
one_if_grows true true h = omega arith
one_if_grows true false h = absurd (both_ways false refl (h refl))
one_if_grows false true h = omega arith
one_if_grows false false h = omega arith

tally_overlap : (f g : ℕ → Bool) (n : ℕ) → tally f n + tally g n ≤ n + tally (λ s. f s && g s) n
tally_overlap f g zero = omega arith
tally_overlap f g (suc k) = omega (arith, tally_overlap f g k, one_if_and (f k) (g k))

pub tally_grows : (f g : ℕ → Bool) (n : ℕ) → ((s : ℕ) → s < n → f s ≡ true → g s ≡ true) → tally f n ≤ tally g n
tally_grows f g zero h = omega arith
tally_grows f g (suc k) h = omega (arith, tally_grows f g k (λ s l. h s (omega arith)), one_if_grows (f k) (g k) (h k (omega arith)))

-- a count that is above another has a number that the other has not
abbrev Only : (ℕ → Bool) → (ℕ → Bool) → ℕ → Type 0
Only f g n = (s : ℕ) × (s < n) × (f s ≡ true) × (g s ≡ false)

only_here : (f g : ℕ → Bool) (k : ℕ) (a b : Bool) → f k ≡ a → g k ≡ b → tally g k + one_if b < tally f k + one_if a →
    (tally g k < tally f k → Only f g k) → Only f g (suc k)
only_here f g k true false p q h deeper = (k, omega arith, p, q)
only_here f g k true true p q h deeper = let r = deeper (omega arith) in (r.0, omega arith, r.2, r.3)
only_here f g k false true p q h deeper = let r = deeper (omega arith) in (r.0, omega arith, r.2, r.3)
only_here f g k false false p q h deeper = let r = deeper (omega arith) in (r.0, omega arith, r.2, r.3)

tally_above : (f g : ℕ → Bool) (n : ℕ) → tally g n < tally f n → (s : ℕ) × (s < n) × (f s ≡ true) × (g s ≡ false)
tally_above f g zero h = absurd (omega arith)
tally_above f g (suc k) h = only_here f g k (f k) (g k) refl refl h (tally_above f g k)

one_if_not : (a : Bool) → one_if (not a) + one_if a ≡ 1
one_if_not true = refl
one_if_not false = refl

tally_not : (f : ℕ → Bool) (n : ℕ) → tally (λ k. not (f k)) n + tally f n ≡ n
tally_not f zero = refl
tally_not f (suc n) = omega (arith, tally_not f n, one_if_not (f n))

pub tally_most : (f : ℕ → Bool) (n : ℕ) → tally f n ≤ n
tally_most f n = omega (arith, tally_not f n)

-- one more has the property
pub tally_rises : (f g : ℕ → Bool) (n i : ℕ) → i < n → ((s : ℕ) → s < n → f s ≡ true → g s ≡ true) → f i ≡ false → g i ≡ true → tally f n + 1 ≤ tally g n
tally_rises f g zero i l h old new = absurd (omega arith)
tally_rises f g (suc k) i l h old new = elim (dec_lt i k) [
  | yes below ↦ omega (arith, tally_rises f g k i below (λ s m. h s (omega arith)) old new, one_if_grows (f k) (g k) (h k (omega arith)))
  | no above ↦
      let e : i ≡ k = omega arith in
      let fk : f k ≡ false = subst (λ (x : ℕ). f x ≡ false) e old in
      let gk : g k ≡ true = subst (λ (x : ℕ). g x ≡ true) e new in
      omega (arith, tally_grows f g k (λ s m. h s (omega arith)), ap one_if fk, ap one_if gk)
]

-- Sums below a bound.
abbrev pub total : (ℕ → ℕ) → ℕ → ℕ
total f zero = 0
total f (suc k) = total f k + f k

-- a sum of which one number rises by x, and none sinks
pub total_rises : (f g : ℕ → ℕ) (x n i : ℕ) → i < n → ((s : ℕ) → f s ≤ g s) → f i + x ≤ g i → total f n + x ≤ total g n
total_rises f g x zero i l h more = absurd (omega arith)
total_rises f g x (suc k) i l h more = elim (dec_lt i k) [
  | yes below ↦ omega (arith, total_rises f g x k i below h more, h k)
  | no above ↦
      let e : i ≡ k = omega arith in
      let here : f k + x ≤ g k = subst (λ (j : ℕ). f j + x ≤ g j) e more in
      omega (arith, here, total_grows f g k h)
]
  where
    total_grows : (f g : ℕ → ℕ) (n : ℕ) → ((s : ℕ) → f s ≤ g s) → total f n ≤ total g n
    total_grows f g zero h = omega arith
    total_grows f g (suc k) h = omega (arith, total_grows f g k h, h k)

pub total_most : (f : ℕ → ℕ) (m n : ℕ) → ((s : ℕ) → f s ≤ m) → total f n ≤ n * m
total_most f m zero h = omega arith
total_most f m (suc k) h = omega (arith, total_most f m k h, h k)

-- Quorums of a lawful plan.
abbrev HonestIn : Plan → (ℕ → Bool) → Type 0
HonestIn p f = (s : ℕ) × (s < p.n) × (honest p s ≡ true) × (f s ≡ true)

pub quorum_honest : (p : Plan) → Lawful p → (f : ℕ → Bool) → quorum p ≤ tally f p.n → HonestIn p f
quorum_honest p l f h =
    let r = tally_above f p.corrupt p.n (omega (arith, l.faults, l.few)) in
    (r.0, r.1, not_from_false (p.corrupt r.0) r.3, r.2)

-- two quorums share an honest seat
pub quorums_meet : (p : Plan) → Lawful p → (f g : ℕ → Bool) → quorum p ≤ tally f p.n → quorum p ≤ tally g p.n →
    (s : ℕ) × (s < p.n) × (honest p s ≡ true) × (f s ≡ true) × (g s ≡ true)
quorums_meet p l f g hf hg =
    let r = tally_above (λ s. f s && g s) p.corrupt p.n (omega (arith, l.faults, l.few, tally_overlap f g p.n)) in
    let e = and_parts (f r.0) (g r.0) r.2 in
    (r.0, r.1, not_from_false (p.corrupt r.0) r.3, e.0, e.1)

-- what holds of every honest seat holds of a quorum
pub quorum_when : (p : Plan) → Lawful p → (f : ℕ → Bool) → ((s : ℕ) → s < p.n → honest p s ≡ true → f s ≡ true) → quorum p ≤ tally f p.n
quorum_when p l f h = omega (arith, tally_grows (honest p) f p.n h, tally_not p.corrupt p.n, l.few)
