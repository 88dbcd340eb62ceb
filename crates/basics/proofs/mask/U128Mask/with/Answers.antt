-- The set that i has joined.
use Rattle.basics.proofs.BitLaws.{bit_with}
use Rattle.basics.proofs.mask.U128Mask.with.Goals as goal

pub returns-then-i-lt128 : goal.returns-then-i-lt128
returns-then-i-lt128 c = bit_with 128 c.args.self c.args.i c.if-i-lt128.true
