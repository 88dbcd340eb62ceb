-- Sets of small numbers as masks.
use Rattle.std.specs.Prelude.{◌≡◌, ℕ, ◌/◌, ◌%◌, ◌^◌, Bool, true, false, ◌==◌, ◌≢◌}

-- whether i is in the set that the mask m stands for: its bit i is set
unfoldable pub bit : ℕ → ℕ → Bool
bit m i = m / 2 ^ i % 2 == 1

-- whether two sets have a number in common
abbrev pub Meets : Bool → ℕ → ℕ → Type 0
Meets true a b = (i : ℕ) × (bit a i ≡ true) × (bit b i ≡ true)
Meets false a b = (i : ℕ) → bit a i ≡ true → bit b i ≢ true
