-- A digit is what `>>` and `& 1` read, and past the width there is none.
use Rattle.std.proofs.Common.{arith}
use Rattle.basics.proofs.BitLaws.{bit_read, no_digit}
use Rattle.basics.proofs.mask.U16Mask.has.Goals as goal

pub returns-then-i-lt16 : goal.returns-then-i-lt16
returns-then-i-lt16 c = bit_read c.args.self c.args.i

pub returns-else-i-lt16 : goal.returns-else-i-lt16
returns-else-i-lt16 c = no_digit 16 c.args.self c.args.i (omega arith) (omega arith)
