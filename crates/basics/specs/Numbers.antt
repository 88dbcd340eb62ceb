-- What is inside a wrapped number, where there is one.
use Rattle.std.specs.Prelude.{ℕ, Bool, cond, Some, None, Option}
use Rattle.basics.specs.declared.ranged.Number.{Number}
use Rattle.basics.specs.declared.numbers.BlockNumber.{BlockNumber}

-- the number x where the test holds, and otherwise none
abbrev pub only_if : Bool → ℕ → Option ℕ
only_if b x = cond b (Some x) None

-- the number inside: of a seat, a rank or a round
abbrev pub number_value : {K : _} {R : _} → Option (Number K R) → Option ℕ
number_value (Some x) = Some x.value
number_value None = None

-- the number of a block
abbrev pub block_value : Option BlockNumber → Option ℕ
block_value (Some b) = Some b.value
block_value None = None
