-- A number is in both sets exactly where one is in what `&` leaves.
use Rattle.std.proofs.Common.{arith}
use Rattle.basics.proofs.BitLaws.{meets_by_and}
use Rattle.basics.proofs.mask.meets.Goals as goal

pub returns : goal.returns
returns c = meets_by_and 128 c.args.a c.args.b (omega arith)
