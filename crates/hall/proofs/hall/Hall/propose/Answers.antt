use Rattle.std.proofs.Common.{ℕ, sym, refl, ap, ◌∙◌}
use Rattle.model.specs.Checks.Call.{propose}
use Rattle.plans.specs.Planned.{model}
use Rattle.seats.specs.Sent.{listed}
use Rattle.tree.specs.Payloads.{payload_list}
use Rattle.tree.specs.Payloads.{listed as places_of_payload}
use Rattle.hall.specs.Worlds.{world}
use Rattle.hall.specs.Steps.{posting}
use Rattle.hall.proofs.Steps.{seat_refused, turned_away, rule_turned_away, rule_accepted}
use Rattle.hall.proofs.Proposals.{no_parent, no_payload, all_found}
use Rattle.hall.proofs.hall.Hall.propose.Goals as goal

pub returns-in_err-who : goal.returns-in_err-who
returns-in_err-who g c =
    seat_refused g.B.SealView.held c.args.self.now (propose c.args.seat c.args.parent c.args.places.now) _ c.args.parent refl _ _
    c.in_err-who.ensures c.from_residual.ensures.1

pub returns-in_err-known : goal.returns-in_err-known
returns-in_err-known g c =
    let h = c.args.self.now in
    let s = c.args.seat in
    let par = c.args.parent in
    let xs = c.args.places.now in
    turned_away g.B.SealView.held h (propose s par xs) s par _ _ c.from_residual-in_err-known.ensures.1
    (no_parent (model h.plan) (world g.B.SealView.held h) s par xs _ c.in_ok-who.ensures _ c.in_err-known.ensures)

pub returns-in_err-payload : goal.returns-in_err-payload
returns-in_err-payload g c =
    let h = c.args.self.now in
    let s = c.args.seat in
    let par = c.args.parent in
    let xs = c.args.places.now in
    turned_away g.B.SealView.held h (propose s par xs) s par _ _ c.from_residual-in_err-payload.ensures.1
    (no_payload (model h.plan) (world g.B.SealView.held h) s par xs _ c.in_ok-who.ensures _ _ c.new.ensures c.in_err-payload.ensures.value)

pub returns-in_err-outgoing : goal.returns-in_err-outgoing
returns-in_err-outgoing g c =
    let h = c.args.self.now in
    let held = g.B.SealView.held in
    let s = c.args.seat in
    let par = c.args.parent in
    let xs = c.args.places.now in
    let found = all_found (model h.plan) (world held h) s par xs c.in_ok-who.who.value c.in_ok-who.ensures c.in_ok-known.known.value (places_of_payload c.in_ok-payload.payload)
    c.in_ok-known.ensures (sym (ap payload_list c.in_ok-payload.ensures.ok_part) ∙ c.new.ensures) in
    rule_turned_away held h (propose s par xs) 3 found.3 c.run_propose.new.self s par _ _ c.from_residual-in_err-outgoing.ensures.1
    (rw (found.0, found.1, found.2) at c.in_err-outgoing.ensures)

pub returns : goal.returns
returns g c =
    let h = c.args.self.now in
    let held = g.B.SealView.held in
    let s = c.args.seat in
    let par = c.args.parent in
    let xs = c.args.places.now in
    let found = all_found (model h.plan) (world held h) s par xs c.in_ok-who.who.value c.in_ok-who.ensures c.in_ok-known.known.value (places_of_payload c.in_ok-payload.payload)
    c.in_ok-known.ensures (sym (ap payload_list c.in_ok-payload.ensures.ok_part) ∙ c.new.ensures) in
    let h₁ = c.run_propose.new.self in
    let out = listed c.in_ok-outgoing.outgoing in
    rule_accepted held h (propose s par xs) 3 found.3 h₁ c.post.new.self out (rw (found.0, found.1, found.2) at c.in_ok-outgoing.ensures) c.post.ensures.plan
    (c.post.ensures.world ∙ ap (λ (k : ℕ). posting k out (world held h₁)) found.0) refl
