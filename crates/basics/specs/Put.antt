-- Changing a function at one number.
use Rattle.std.specs.Prelude.{ℕ, cond, ◌==◌, nat_lt}

-- as f, but v at i
abbrev pub put : {A : Type 0} → ℕ → A → (ℕ → A) → ℕ → A
put i v f j = cond (i == j) v (f j)

-- the same where i is below the width w; past it nothing changes
abbrev pub put_below : {A : Type 0} → ℕ → ℕ → A → (ℕ → A) → ℕ → A
put_below w i v f j = cond (nat_lt i w) (put i v f j) (f j)
