-- The seals that 632 masks hold: kind 2 by block, then kind 4 by block, then kind 6 by round; bit s is seat s.
use Rattle.std.specs.Prelude.{◌≡◌, ℕ, ◌+◌, ◌-◌, Bool, false, cond, ◌&&◌, List, ◌==◌, slice_index}
use Rattle.std.proofs.Common.{ap}
use Rattle.basics.specs.Bit.{bit}
use Rattle.seals.specs.Seals.{allowed, between}

-- the row of a kind and a subject, or 632 where there is none (and then no seal is allowed)
abbrev pub row_at : ℕ → ℕ → ℕ
row_at k b = cond (k == 2 && between 1 312 b) (b - 1) (cond (k == 4 && between 1 312 b) (312 + (b - 1)) (cond (k == 6 && between 1 8 b) (624 + (b - 1)) 632))

-- the set that the masks stand for
abbrev pub row_holds : List ℕ → ℕ → ℕ → ℕ → Bool
row_holds ms k s b = allowed k s b && bit (slice_index ms (row_at k b)) s

-- a seal outside the ranges is never held (the value of a ghost member, so it stands here)
pub row_inside : (ms : List ℕ) (k s b : ℕ) → allowed k s b ≡ false → row_holds ms k s b ≡ false
row_inside ms k s b h = ap (λ a. a && bit (slice_index ms (row_at k b)) s) h
