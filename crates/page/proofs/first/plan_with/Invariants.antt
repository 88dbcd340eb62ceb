-- The invariant: naming the seats that are left gives what naming all gives.
use Rattle.std.proofs.Common.{◌≡◌, ◌-◌}
use Rattle.plans.specs.Planned.{model}
use Rattle.page.specs.First.{named}
use Rattle.page.proofs.first.plan_with.Given as goal

abbrev pub invariant-loop-seat : goal.invariant-loop-seat
invariant-loop-seat g l = named l.setup.corrupt 16 0 (model l.initial.plan) ≡ named l.setup.corrupt (16 - l.seat) l.seat (model l.plan)
