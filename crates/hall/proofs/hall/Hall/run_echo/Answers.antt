use Rattle.std.proofs.Common.{◌<◌, length, refl, ap, ◌∙◌, subst, rules}
use Rattle.model.specs.Checks.Call.{echo}
use Rattle.messages.specs.Stored.{stored}
use Rattle.plans.specs.Planned.{model}
use Rattle.seats.specs.declared.seat.Seat.{Seat}
use Rattle.seats.specs.Seated.{seated, pooled}
use Rattle.seats.specs.Faults.{told}
use Rattle.seats.specs.Sent.{sent}
use Rattle.seats.specs.Desk.{desk, Rule}
use Rattle.hall.proofs.Rules.{lent, makes_none, ran}
use Rattle.hall.proofs.hall.Hall.run_echo.Goals as goal

pub returns : goal.returns
returns g c =
    let h = c.args.self.now in
    let held = g.B.SealView.held in
    let s = c.args.who.value in
    let b = c.args.block.value in
    let x' = c.echo.new.self in
    let i = c.value.result in
    let same = c.value.ensures.same in
    let low : i < length h.seats = search rules in
    let here = lent h.seats i s c.index-seats-value.result low c.index-seats-value.is same in
    let rule = subst (λ (x : Seat). Rule 3 (model h.plan) (desk h.tree (held h.book) x) (echo s b) (told s b c.echo.result) (sent c.echo.result) (seated x') (held c.echo.new.book)) here c.echo.ensures.rule in
    ran held h 3 (echo s b) i x' h.tree c.echo.new.book _ _ low same (ap stored c.echo.ensures.pool ∙ ap pooled here)
    (record { judged = rule.judged; sends = rule.sends; moves = rule.moves; seals_given = rule.seals_given }) (makes_none held h 3 (echo s b) refl)
