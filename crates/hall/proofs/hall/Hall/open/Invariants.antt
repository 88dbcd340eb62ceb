use Rattle.std.proofs.Common.{◌≡◌}
use Rattle.plans.specs.Planned.{model}
use Rattle.hall.specs.Worlds.{world}
use Rattle.hall.proofs.Openings.{opening_below}
use Rattle.hall.proofs.hall.Hall.open.Given as goal

abbrev pub invariant-loop-seat : goal.invariant-loop-seat
invariant-loop-seat g l = (l.hall.plan ≡ l.initial.hall.plan) × (world g.B.SealView.held l.hall ≡ opening_below (model l.initial.hall.plan) l.seat)
