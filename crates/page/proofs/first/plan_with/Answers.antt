-- One seat more is passed over, named, or refused.
use Rattle.std.proofs.Common.{◌≡◌, ◌+◌, ◌-◌, Err, sym, ap, ◌∙◌, arith, rules}
use Rattle.plans.specs.Planned.{model}
use Rattle.page.specs.First.{named, plan_with}
use Rattle.page.proofs.FirstLaws.{seat_passed, seat_named, seat_end}
use Rattle.page.proofs.first.plan_with.Goals.{then-has+in_ok-name_corrupt, else-has}
use Rattle.page.proofs.first.plan_with.Goals as goal

pub returns-in_err-name_corrupt : goal.returns-in_err-name_corrupt
returns-in_err-name_corrupt g c =
    let d = c.args.draw.now in
    let x = c.args.setup.corrupt in
    let marked = seat_named x c.loop-seat.seat (model c.loop-seat.plan) (omega arith) (cc) in
    let refused = rw (← c.name_corrupt.ensures.answer, c.in_err-name_corrupt.was) at (c.loop-seat.invariant ∙ marked) in
    let e : plan_with (g.D.Draw.seats d) (g.D.Draw.rounds d) (g.D.Draw.rank d) c.args.setup ≡ Err c.in_err-name_corrupt.field-0.0 =
    rw (← c.in_ok-plan.ensures) refused in
    search rules

pub loop-seat-preserved : goal.loop-seat-preserved
loop-seat-preserved g c =
    let x = c.args.setup.corrupt in
    let s = c.loop-seat.seat in
    let p = model c.loop-seat.plan in
    let later = named x (16 - (s + 1)) (s + 1) in
    elim c.if-has.branch [
      | then-has+in_ok-name_corrupt w ↦
          let marked = seat_named x s p (omega arith) (cc) in
          rw (← w.name_corrupt.ensures.answer, w.in_ok-name_corrupt.was) at (c.loop-seat.invariant ∙ marked)
          ∙ ap later (sym w.name_corrupt.ensures.plan ∙ ap model (sym w.plan-is))
      | else-has w ↦ c.loop-seat.invariant ∙ seat_passed x s p (omega arith) (cc) ∙ ap later (ap model (sym w.plan-is))
    ]

pub returns : goal.returns
returns g c =
    let x = c.args.setup.corrupt in
    rw (← c.in_ok-plan.ensures) (sym (c.loop-seat.invariant ∙ seat_end x c.loop-seat.seat (model c.loop-seat.plan) (omega arith)))
