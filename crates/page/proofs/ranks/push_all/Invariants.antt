-- The invariant: the ranks so far are added.
use Rattle.std.proofs.Common.{◌≡◌, ◌++◌, take}
use Rattle.basics.specs.Elements.{elements}
use Rattle.page.proofs.ranks.push_all.Given as goal

abbrev pub invariant-loop-rank : goal.invariant-loop-rank
invariant-loop-rank l = elements l.table ≡ elements l.initial.table ++ take l.rank-index l.ranks
