-- No flag is raised.
use Rattle.std.proofs.Common.{false, get_or, replicate}
use Rattle.std.proofs.lemmas.Bool.{both_ways}
use Rattle.noted.proofs.Searches.{lowered}
use Rattle.noted.proofs.blocks.NotedBlocks.none.Goals as goal

pub invariant_of-result-clause-above : goal.invariant_of-result-clause-above
invariant_of-result-clause-above c q = absurd (both_ways (get_or (replicate 313 false) q.at false) (lowered 313 q.at) q.is_raised)

pub invariant_of-result-clause-below : goal.invariant_of-result-clause-below
invariant_of-result-clause-below c q = absurd (both_ways (get_or (replicate 313 false) q.at false) (lowered 313 q.at) q.is_raised)

pub returns : goal.returns
returns c = λ i b. lowered 313 b i
