-- A digit is what `>>` and `& 1` read, and past the width there is none.
use Rattle.std.proofs.Common.{arith}
use Rattle.basics.proofs.BitLaws.{bit_read, no_digit}
use Rattle.basics.proofs.mask.U128Mask.has.Goals as goal

pub returns-then-i-lt128 : goal.returns-then-i-lt128
returns-then-i-lt128 c = bit_read c.args.self c.args.i

pub returns-else-i-lt128 : goal.returns-else-i-lt128
returns-else-i-lt128 c = no_digit 128 c.args.self c.args.i (omega arith) (omega arith)
