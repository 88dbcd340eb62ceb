use Rattle.std.proofs.Common.{ℕ, ap, ◌∙◌, refl}
use Rattle.model.specs.Checks.Call.{echo}
use Rattle.seats.specs.Sent.{listed}
use Rattle.hall.specs.Worlds.{world}
use Rattle.hall.specs.Steps.{posting}
use Rattle.hall.proofs.Steps.{seat_refused, block_refused, past_seat, past_block, rule_turned_away, rule_accepted}
use Rattle.hall.proofs.hall.Hall.echo.Goals as goal

pub returns-in_err-who : goal.returns-in_err-who
returns-in_err-who g c =
    seat_refused g.B.SealView.held c.args.self.now (echo c.args.seat c.args.block) _ c.args.block refl _ _ c.in_err-who.ensures c.from_residual.ensures.1

pub returns-in_err-known : goal.returns-in_err-known
returns-in_err-known g c =
    block_refused g.B.SealView.held c.args.self.now (echo c.args.seat c.args.block) _ c.args.block refl _ c.in_ok-who.ensures refl _ _
    c.in_err-known.ensures c.from_residual-in_err-known.ensures.1

pub returns-in_err-outgoing : goal.returns-in_err-outgoing
returns-in_err-outgoing g c =
    let h = c.args.self.now in
    let held = g.B.SealView.held in
    let s = c.args.seat in
    let b = c.args.block in
    let seat = past_seat held h (echo s b) _ b refl _ c.in_ok-who.ensures in
    let block = past_block held h (echo s b) _ b refl _ c.in_ok-who.ensures refl _ c.in_ok-known.ensures in
    rule_turned_away held h (echo s b) 3 block.1 c.run_echo.new.self s b _ _ c.from_residual-in_err-outgoing.ensures.1
    (rw (seat.0, block.0) at c.in_err-outgoing.ensures)

pub returns : goal.returns
returns g c =
    let h = c.args.self.now in
    let held = g.B.SealView.held in
    let s = c.args.seat in
    let b = c.args.block in
    let seat = past_seat held h (echo s b) _ b refl _ c.in_ok-who.ensures in
    let block = past_block held h (echo s b) _ b refl _ c.in_ok-who.ensures refl _ c.in_ok-known.ensures in
    let h₁ = c.run_echo.new.self in
    let out = listed c.in_ok-outgoing.outgoing in
    rule_accepted held h (echo s b) 3 block.1 h₁ c.post.new.self out (rw (seat.0, block.0) at c.in_ok-outgoing.ensures) c.post.ensures.plan
    (c.post.ensures.world ∙ ap (λ (k : ℕ). posting k out (world held h₁)) seat.0) refl
