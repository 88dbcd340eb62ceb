use Rattle.std.proofs.Common.{◌≡◌}
use Rattle.messages.specs.Stored.{stored}
use Rattle.tree.specs.Chains.{notarized_on}
use Rattle.tree.proofs.tree.walks.Chain.is_notarized.Given as goal

abbrev pub invariant-loop-parent : goal.invariant-loop-parent
invariant-loop-parent l = notarized_on l.self (stored l.pool) ≡ notarized_on l.chain (stored l.pool)

abbrev pub decreases-loop-parent : goal.decreases-loop-parent
decreases-loop-parent l = l.chain.round
