-- A table of one value, repeated.
use Rattle.std.proofs.Common.{◌≡◌, ℕ, zero, suc, get_or, replicate}

-- whatever both the value and the default have, each place has
pub each_repeated : {A F : Type 0} (f : A → F) (x d : A) (v : F) → f x ≡ v → f d ≡ v → (n k : ℕ) → f (get_or (replicate n x) k d) ≡ v
each_repeated f x d v here there zero k = there
each_repeated f x d v here there (suc n) zero = here
each_repeated f x d v here there (suc n) (suc k) = each_repeated f x d v here there n k
