use Rattle.std.proofs.Common.{sym, refl, ap, ◌∙◌}
use Rattle.model.specs.Checks.Call.{forge}
use Rattle.plans.specs.Planned.{model}
use Rattle.tree.specs.Payloads.{payload_list}
use Rattle.tree.specs.Payloads.{listed as places_of_payload}
use Rattle.hall.specs.Faults.{answer}
use Rattle.hall.specs.Worlds.{world}
use Rattle.hall.specs.Answers.{round_if}
use Rattle.hall.proofs.Steps.{seat_refused, turned_away, decided}
use Rattle.hall.proofs.Forgeries.{no_round, no_parent, no_payload, all_found}
use Rattle.hall.proofs.hall.Hall.forge.Goals as goal

pub returns-in_err-who : goal.returns-in_err-who
returns-in_err-who g c =
    seat_refused g.B.SealView.held c.args.self.now (forge c.args.seat c.args.round c.args.parent c.args.places.now) _ c.args.parent refl _ _
    c.in_err-who.ensures c.from_residual.ensures.1

pub returns-in_err-named : goal.returns-in_err-named
returns-in_err-named g c =
    let h = c.args.self.now in
    let s = c.args.seat in
    let par = c.args.parent in
    let xs = c.args.places.now in
    turned_away g.B.SealView.held h (forge s c.args.round par xs) s par _ _ c.from_residual-in_err-named.ensures.1
    (no_round (model h.plan) (world g.B.SealView.held h) s c.args.round par xs _ c.in_ok-who.ensures _ (c.in_err-named.ensures ∙ ap (round_if (model h.plan)) c.into.ensures))

pub returns-in_err-known : goal.returns-in_err-known
returns-in_err-known g c =
    let h = c.args.self.now in
    let s = c.args.seat in
    let par = c.args.parent in
    let xs = c.args.places.now in
    turned_away g.B.SealView.held h (forge s c.args.round par xs) s par _ _ c.from_residual-in_err-known.ensures.1
    (no_parent (model h.plan) (world g.B.SealView.held h) s c.args.round par xs _ c.in_ok-who.ensures _ c.in_err-known.ensures)

pub returns-in_err-payload : goal.returns-in_err-payload
returns-in_err-payload g c =
    let h = c.args.self.now in
    let s = c.args.seat in
    let par = c.args.parent in
    let xs = c.args.places.now in
    turned_away g.B.SealView.held h (forge s c.args.round par xs) s par _ _ c.from_residual-in_err-payload.ensures.1
    (no_payload (model h.plan) (world g.B.SealView.held h) s c.args.round par xs _ c.in_ok-who.ensures _ _ c.new.ensures c.in_err-payload.ensures.value)

pub returns : goal.returns
returns g c =
    let h = c.args.self.now in
    let held = g.B.SealView.held in
    let p = model h.plan in
    let s = c.args.seat in
    let k = c.args.round in
    let par = c.args.parent in
    let xs = c.args.places.now in
    let who = c.in_ok-who.who.value in
    let round = c.in_ok-named.named.value in
    let block = c.in_ok-known.known.value in
    let ys = places_of_payload c.in_ok-payload.payload in
    let found = all_found p (world held h) s k par xs who c.in_ok-who.ensures round block ys
    (c.in_ok-named.ensures ∙ ap (round_if p) c.into.ensures) c.in_ok-known.ensures (sym (ap payload_list c.in_ok-payload.ensures.ok_part) ∙ c.new.ensures) in
    let h₁ = c.run_forge.new.self in
    let r = c.run_forge.result in
    decided held h (forge s k par xs) 3 found.4 h₁ (answer s par r)
    (rw (found.0, found.1, found.2, found.3) at c.run_forge.ensures)
