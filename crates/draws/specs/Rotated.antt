-- The ranks of the rotation, and that they occur once each.
use Rattle.std.specs.Prelude.{◌≡◌, ℕ, ◌+◌, ◌-◌, ◌%◌, ◌<◌, ◌≤◌, ◌⊎◌}
use Rattle.std.proofs.Common.{◌∙◌, inl, inr, ⊎_elim, mod-lt, mod-eq_of_lt, arith}
use Rattle.std.proofs.Math.Nat.{mod-eq-sub-mod}
use Rattle.std.proofs.lemmas.Bool.{cases_lt}
use Rattle.draws.specs.Ranks.{Once}

-- from round to round the ranks move on by one seat
abbrev pub rotated : ℕ → ℕ → ℕ → ℕ
rotated n k s = (s + n - (k - 1) % n) % n

-- a number below twice n, less n where it is not below n
fold : (x n : ℕ) → x < n + n → ((x < n) × (x % n ≡ x)) ⊎ ((n ≤ x) × (x % n ≡ x - n))
fold x n h = ⊎_elim (λ (lt : x < n). inl (lt, mod-eq_of_lt lt)) (λ (le : n ≤ x). let sub : x - n < n = omega arith in inr (le, mod-eq-sub-mod le ∙ mod-eq_of_lt sub)) (cases_lt x n)

module _ (n m : ℕ) (low : m < n) where
  at : (s : ℕ) → s < n → ((s + n - m < n) × ((s + n - m) % n ≡ s + n - m)) ⊎ ((n ≤ s + n - m) × ((s + n - m) % n ≡ s + n - m - n))
  at s h = fold (s + n - m) n (omega arith)

  turned_apart : (s t : ℕ) → s < n → t < n → (s + n - m) % n ≡ (t + n - m) % n → s ≡ t
  turned_apart s t h g e =
      ⊎_elim (λ p. ⊎_elim (λ q. omega (arith, p.0, p.1, q.0, q.1)) (λ q. omega (arith, p.0, p.1, q.0, q.1)) (at t g))
      (λ p. ⊎_elim (λ q. omega (arith, p.0, p.1, q.0, q.1)) (λ q. omega (arith, p.0, p.1, q.0, q.1)) (at t g)) (at s h)

-- (This is the value of a ghost member, so its proof stands here.)
pub rotated_once : (n k : ℕ) → 1 ≤ n → Once n (rotated n k)
rotated_once n k h = record {
  below = λ s g. mod-lt (s + n - (k - 1) % n) h;
  apart = turned_apart n ((k - 1) % n) (mod-lt (k - 1) h);
}
