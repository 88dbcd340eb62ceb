-- src/lib.rt: the law of every lawful plan.
use Rattle.model.proofs.Law.{law_stands}
use Rattle.model.proofs.law_stands.Goals as goal

pub returns : goal.returns
returns c = law_stands
