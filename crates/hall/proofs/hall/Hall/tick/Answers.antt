use Rattle.std.proofs.Common.{[], refl, sym}
use Rattle.model.specs.Checks.Call.{tick}
use Rattle.hall.specs.Worlds.{world}
use Rattle.hall.proofs.Updates.{posting_none}
use Rattle.hall.proofs.Steps.{seat_refused, past_seat, rule_turned_away, rule_accepted}
use Rattle.hall.proofs.hall.Hall.tick.Goals as goal

pub returns-in_err-who : goal.returns-in_err-who
returns-in_err-who g c =
    seat_refused g.B.SealView.held c.args.self.now (tick c.args.seat c.args.time) _ 0 refl _ _ c.in_err-who.ensures c.from_residual.ensures.1

pub returns-in_err-run_tick : goal.returns-in_err-run_tick
returns-in_err-run_tick g c =
    let h = c.args.self.now in
    let held = g.B.SealView.held in
    let s = c.args.seat in
    let seat = past_seat held h (tick s c.args.time) _ 0 refl _ c.in_ok-who.ensures in
    rule_turned_away held h (tick s c.args.time) 2 seat.1 c.run_tick.new.self s 0 _ _ c.from_residual-in_err-run_tick.ensures.1
    (rw seat.0 at c.in_err-run_tick.ensures)

pub returns : goal.returns
returns g c =
    let h = c.args.self.now in
    let held = g.B.SealView.held in
    let s = c.args.seat in
    let seat = past_seat held h (tick s c.args.time) _ 0 refl _ c.in_ok-who.ensures in
    let h₁ = c.run_tick.new.self in
    rule_accepted held h (tick s c.args.time) 2 seat.1 h₁ h₁ [] (rw seat.0 at c.in_ok-run_tick.ensures) refl (sym (posting_none s (world held h₁))) refl
