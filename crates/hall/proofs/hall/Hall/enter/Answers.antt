use Rattle.std.proofs.Common.{ℕ, refl, ap, ◌∙◌}
use Rattle.model.specs.Checks.Call.{enter}
use Rattle.seats.specs.Sent.{listed}
use Rattle.hall.specs.Worlds.{world}
use Rattle.hall.specs.Steps.{posting}
use Rattle.hall.proofs.Steps.{seat_refused, past_seat, rule_turned_away, rule_accepted}
use Rattle.hall.proofs.hall.Hall.enter.Goals as goal

pub returns-in_err-who : goal.returns-in_err-who
returns-in_err-who g c =
    seat_refused g.B.SealView.held c.args.self.now (enter c.args.seat) _ 0 refl _ _ c.in_err-who.ensures c.from_residual.ensures.1

pub returns-in_err-outgoing : goal.returns-in_err-outgoing
returns-in_err-outgoing g c =
    let h = c.args.self.now in
    let held = g.B.SealView.held in
    let s = c.args.seat in
    let seat = past_seat held h (enter s) _ 0 refl _ c.in_ok-who.ensures in
    rule_turned_away held h (enter s) 2 seat.1 c.run_enter.new.self s 0 _ _ c.from_residual-in_err-outgoing.ensures.1
    (rw seat.0 at c.in_err-outgoing.ensures)

pub returns : goal.returns
returns g c =
    let h = c.args.self.now in
    let held = g.B.SealView.held in
    let s = c.args.seat in
    let seat = past_seat held h (enter s) _ 0 refl _ c.in_ok-who.ensures in
    let h₁ = c.run_enter.new.self in
    let out = listed c.in_ok-outgoing.outgoing in
    rule_accepted held h (enter s) 2 seat.1 h₁ c.post.new.self out (rw seat.0 at c.in_ok-outgoing.ensures) c.post.ensures.plan
    (c.post.ensures.world ∙ ap (λ (k : ℕ). posting k out (world held h₁)) seat.0) refl
