-- One row written is one message more.
use Rattle.std.proofs.Common.{true, ◌∙◌, arith, rules}
use Rattle.basics.proofs.BitLaws.{put_inside}
use Rattle.messages.specs.Meaning.{means}
use Rattle.messages.proofs.RowLaws.{row_joined, message_fits}
use Rattle.messages.proofs.set.MessageSet.insert.Goals as goal

pub returns : goal.returns
returns c =
    row_joined c.args.self.now.rows (means c.args.m) c.row_of-at.result c.bit_of.result c.with.result
    (search rules) c.row_of-at.ensures.low (message_fits c.args.m) (cc) c.bit_of.ensures.is (c.with.ensures ∙ put_inside 16 c.bit_of.result true _ (omega (arith, c.bit_of.ensures.low)))
