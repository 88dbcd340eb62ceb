-- Where a message stands in a table of rows.
use Rattle.std.specs.Prelude.{ℕ, ◌+◌, ◌-◌, ◌*◌, Bool, ◌&&◌, ◌||◌, ◌==◌, nat_le, nat_lt}

-- kinds 1 to 5 speak of a block up to 312, kind 6 of a round from 1 to 8
abbrev pub subject_fits : ℕ → ℕ → Bool
subject_fits k x = (nat_le 1 k && (nat_lt k 6 && nat_le x 312)) || (k == 6 && (nat_le 1 x && nat_le x 8))

-- 313 rows for each kind from 1 to 5, and then those of kind 6
abbrev pub row : ℕ → ℕ → ℕ
row k x = (k - 1) * 313 + x
