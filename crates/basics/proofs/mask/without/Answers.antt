-- The set that i has left.
use Rattle.std.proofs.Common.{arith}
use Rattle.basics.proofs.BitLaws.{bit_without}
use Rattle.basics.proofs.mask.without.Goals as goal

pub returns-then-i-lt16 : goal.returns-then-i-lt16
returns-then-i-lt16 c = bit_without 16 c.args.m c.args.i (omega arith) c.if-i-lt16.true
