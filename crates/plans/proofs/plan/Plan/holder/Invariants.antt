use Rattle.std.proofs.Common.{◌≡◌, false, eqb}
use Rattle.basics.specs.Count.{some_below}
use Rattle.plans.specs.Planned.{model}
use Rattle.plans.proofs.plan.Plan.holder.Given as goal

abbrev pub invariant-loop-s : goal.invariant-loop-s
invariant-loop-s l = some_below (λ s. eqb ((model l.self).rank l.round.value s) l.rank.value) l.s ≡ false
