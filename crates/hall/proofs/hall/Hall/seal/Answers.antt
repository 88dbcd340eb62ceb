use Rattle.std.proofs.Common.{◌≡◌, true, false, ◌||◌, eqb, [], ◌∷◌, sym, refl, ◌∙◌, arith}
use Rattle.std.proofs.lemmas.Bool.Decides.{nat_tests}
use Rattle.model.specs.World.{message}
use Rattle.model.specs.Checks.Call.{seal}
use Rattle.plans.specs.Planned.{model}
use Rattle.seats.specs.Desk.{sealed_with}
use Rattle.hall.specs.declared.fault.HallFault.TheVariants.{OutOfRange, Repeated}
use Rattle.hall.specs.Worlds.{world}
use Rattle.hall.proofs.Updates.{quietly}
use Rattle.hall.proofs.Steps.{seat_refused, message_found, refuses, turned_away, accepts_call}
use Rattle.seats.proofs.Posting.{added_one}
use Rattle.hall.proofs.Sealings.{wrong_kind, no_message, sealed_before, sealable, sealable_allowed}
use Rattle.hall.proofs.hall.Hall.seal.Goals as goal

pub returns-in_err-seat_of : goal.returns-in_err-seat_of
returns-in_err-seat_of g c =
    seat_refused g.B.SealView.held c.args.self.now (seal c.args.seat c.args.kind c.args.subject) _ c.args.subject refl _ _ c.in_err-seat_of.ensures c.from_residual.ensures.1

pub returns-then-not-matches : goal.returns-then-not-matches
returns-then-not-matches g c =
    let h = c.args.self.now in
    let held = g.B.SealView.held in
    let s = c.args.seat in
    let kind = c.args.kind in
    let x = c.args.subject in
    let unfit : (eqb kind 2 || (eqb kind 4 || eqb kind 6)) ≡ false = grind (arith, nat_tests) in
    refuses held h (seal s kind x) h s x OutOfRange refl (wrong_kind (model h.plan) (world held h) s kind x _ c.in_ok-seat_of.ensures unfit) refl

pub returns-in_err-message_of : goal.returns-in_err-message_of
returns-in_err-message_of g c =
    let h = c.args.self.now in
    let s = c.args.seat in
    let x = c.args.subject in
    turned_away g.B.SealView.held h (seal s c.args.kind x) s x _ _ c.from_residual-in_err-message_of.ensures.1
    (no_message (model h.plan) (world g.B.SealView.held h) s c.args.kind x _ c.in_ok-seat_of.ensures _ c.in_err-message_of.ensures)

pub returns-then-asked : goal.returns-then-asked
returns-then-asked g c =
    let h = c.args.self.now in
    let held = g.B.SealView.held in
    let s = c.args.seat in
    let kind = c.args.kind in
    let x = c.args.subject in
    let fits : (eqb kind 2 || (eqb kind 4 || eqb kind 6)) ≡ true = grind (arith, nat_tests) in
    refuses held h (seal s kind x) h s x Repeated refl
    (sealed_before (model h.plan) (world held h) s kind x _ c.in_ok-seat_of.ensures _ c.in_ok-message_of.ensures fits (sym c.if-asked.ensures)) refl

pub returns : goal.returns
returns g c =
    let h = c.args.self.now in
    let held = g.B.SealView.held in
    let p = model h.plan in
    let w = world held h in
    let s = c.args.seat in
    let kind = c.args.kind in
    let x = c.args.subject in
    let fits : (eqb kind 2 || (eqb kind 4 || eqb kind 6)) ≡ true = grind (arith, nat_tests) in
    let message_ok = message_found p w s kind s x _ [] c.in_ok-message_of.ensures in
    let more = c.seal.ensures.after ∙ added_one kind s x w.sealed (sealable_allowed h.plan w s kind x fits message_ok.1.0) in
    accepts_call held h (seal s kind x) (record { plan = h.plan; tree = h.tree; seats = h.seats; broadcast = h.broadcast; book = c.seal.new.self }) refl
    (sealable p w s kind x _ c.in_ok-seat_of.ensures _ c.in_ok-message_of.ensures fits (sym c.if-asked.ensures))
    ((λ i. record { made = w.made; parent = w.parent; places = w.places; sealed = more i; pool = w.pool; posted = w.posted; seat = w.seat })
    ∙ quietly s (record { made = w.made; parent = w.parent; places = w.places; sealed = sealed_with (message kind s x ∷ []) w.sealed; pool = w.pool; posted = w.posted; seat = w.seat }))
