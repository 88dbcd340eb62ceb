use Rattle.std.proofs.Common.{replicate}
use Rattle.messages.proofs.RowLaws.{none_in_rows, zero_rows}
use Rattle.messages.proofs.set.MessageSet.empty.Goals as goal

pub returns : goal.returns
returns c = none_in_rows (replicate 1574 0) (zero_rows 1574)
