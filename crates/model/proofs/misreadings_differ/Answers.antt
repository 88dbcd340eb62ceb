-- src/lib.rt: the misreadings.
use Rattle.model.proofs.Misreadings.{misreadings}
use Rattle.model.proofs.misreadings_differ.Goals as goal

pub returns : goal.returns
returns c = misreadings
