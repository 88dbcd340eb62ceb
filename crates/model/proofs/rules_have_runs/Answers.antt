-- src/lib.rt: the closed runs.
use Rattle.model.proofs.Runs.{closed_runs}
use Rattle.model.proofs.rules_have_runs.Goals as goal

pub returns : goal.returns
returns c = closed_runs
