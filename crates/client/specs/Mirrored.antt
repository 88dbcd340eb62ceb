-- The ranks of the mirror, and that they occur once each.
use Rattle.std.specs.Prelude.{ℕ, ◌-◌, ◌≤◌}
use Rattle.std.proofs.Common.{arith}
use Rattle.draws.specs.Ranks.{Once}

-- in every round the last seat comes first
abbrev pub mirrored : ℕ → ℕ → ℕ → ℕ
mirrored n k s = n - 1 - s

-- (This is the value of a ghost member, so its proof stands here.)
pub mirrored_once : (n k : ℕ) → 1 ≤ n → Once n (mirrored n k)
mirrored_once n k h = record {
  below = λ s g. omega arith;
  apart = λ s t g g' e. omega arith;
}
