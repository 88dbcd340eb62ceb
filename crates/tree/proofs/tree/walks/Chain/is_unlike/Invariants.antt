use Rattle.std.proofs.Common.{◌≡◌}
use Rattle.tree.specs.Chains.{places_on, unlike_by}
use Rattle.tree.proofs.tree.walks.Chain.is_unlike.Given as goal

abbrev pub invariant-loop-parent : goal.invariant-loop-parent
invariant-loop-parent l = unlike_by l.self l.x (places_on l.self) ≡ unlike_by l.chain l.x (places_on l.chain)

abbrev pub decreases-loop-parent : goal.decreases-loop-parent
decreases-loop-parent l = l.chain.round
