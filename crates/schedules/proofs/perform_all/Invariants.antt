-- The invariant: the plan stays, and the calls that are left come to the state that all come to.
use mathlib.Core.Path.{◌≡◌}
use lib.ListN.{drop}
use Rattle.plans.specs.Planned.{model}
use Rattle.hall.specs.Worlds.{world}
use Rattle.schedules.specs.Ran.{all_asked, state_after}
use Rattle.schedules.proofs.perform_all.Given as goal

abbrev pub invariant-loop-call : goal.invariant-loop-call
invariant-loop-call g l =
    (l.hall.plan ≡ l.initial.hall.plan)
    × (state_after (model l.initial.hall.plan) (world g.B.SealView.held l.hall) (all_asked (drop l.call-index l.calls))
    ≡ state_after (model l.initial.hall.plan) (world g.B.SealView.held l.initial.hall) (all_asked l.calls))
