-- A seal that cannot be, or is there, adds nothing.
use Rattle.std.proofs.Common.{◌≡◌, ℕ, Bool, true, ◌&&◌, eqb, arith}
use Rattle.std.proofs.lemmas.Bool.Decides.{nat_tests}
use Rattle.seals.specs.Seals.{allowed, added}

-- what holds of a seal holds of one with the same kind, seat and subject
pub same_seal : (f : ℕ → ℕ → ℕ → Bool) (k s b k' s' b' : ℕ) → (eqb k' k && (eqb s' s && eqb b' b)) ≡ true → f k' s' b' ≡ f k s b
same_seal f k s b k' s' b' e = grind (arith, nat_tests)

pub not_added : (f : ℕ → ℕ → ℕ → Bool) (k s b : ℕ) → (allowed k s b ≡ true → f k s b ≡ true) → f ≡ added k s b f
not_added f k s b h =
    let each : (k' s' b' : ℕ) → f k' s' b' ≡ added k s b f k' s' b' = (λ k' s' b'. let same = same_seal f k s b k' s' b' in grind arith) in
    λ i k' s' b'. each k' s' b' i
