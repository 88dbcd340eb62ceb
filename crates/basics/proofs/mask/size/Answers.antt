-- The ones among the lowest 13 digits.
use Rattle.std.proofs.Common.{ap, ◌∙◌, arith}
use lib.Bits.{and_mask}
use lib.Count.{ones}
use Rattle.basics.specs.Bit.{bit}
use Rattle.basics.proofs.CountLaws.{ones_tally, tally_le}
use Rattle.basics.proofs.mask.size.Goals as goal

pub returns : goal.returns
returns c =
    let e = ap ones (and_mask c.args.m 13) ∙ ones_tally c.args.m 13 in
    record { count = e; few = omega (arith, e, tally_le (bit c.args.m) 13) }
