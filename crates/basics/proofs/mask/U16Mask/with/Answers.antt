-- The set that i has joined.
use Rattle.basics.proofs.BitLaws.{bit_with}
use Rattle.basics.proofs.mask.U16Mask.with.Goals as goal

pub returns-then-i-lt16 : goal.returns-then-i-lt16
returns-then-i-lt16 c = bit_with 16 c.args.self c.args.i c.if-i-lt16.true
