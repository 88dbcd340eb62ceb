use Rattle.std.proofs.Common.{◌≡◌, ◌<◌, List, [], ◌∷◌, length, get_or, set, sym, refl, ap, ◌∙◌, ap₂, rules}
use borrow.Author.Rules.{get_or_read}
use Rattle.model.specs.Setup.{honest}
use Rattle.model.specs.World.{message}
use Rattle.model.specs.World.{Message as Said}
use Rattle.model.specs.Checks.Call.{deliver}
use Rattle.messages.specs.Meaning.{means}
use Rattle.messages.specs.Stored.{joined}
use Rattle.plans.specs.Planned.{model}
use Rattle.seats.specs.declared.seat.Seat.{Seat}
use Rattle.seats.specs.Seated.{seated, pooled}
use Rattle.seats.specs.Sent.{with_all}
use Rattle.seats.proofs.Posting.{joined_one}
use Rattle.hall.specs.declared.fault.HallFault.TheVariants.{NoMessage}
use Rattle.hall.specs.Worlds.{world, no_seat}
use Rattle.hall.proofs.Updates.{arrived_at}
use Rattle.hall.proofs.Steps.{seat_refused, seat_found, message_found, refuses, turned_away, accepts_call}
use Rattle.hall.proofs.Deliveries.{no_message, not_there, is_there}
use Rattle.hall.proofs.hall.Hall.deliver.Goals as goal

pub returns-in_err-who : goal.returns-in_err-who
returns-in_err-who g c =
    seat_refused g.B.SealView.held c.args.self.now (deliver c.args.seat c.args.kind c.args.signer c.args.subject) _ c.args.subject refl _ _
    c.in_err-who.ensures c.from_residual.ensures.1

pub returns-in_err-m : goal.returns-in_err-m
returns-in_err-m g c =
    let h = c.args.self.now in
    let s = c.args.seat in
    let x = c.args.subject in
    turned_away g.B.SealView.held h (deliver s c.args.kind c.args.signer x) s x _ _ c.from_residual-in_err-m.ensures.1
    (no_message (model h.plan) (world g.B.SealView.held h) s c.args.kind c.args.signer x _ c.in_ok-who.ensures _ c.in_err-m.ensures)

pub returns-then-not-exists : goal.returns-then-not-exists
returns-then-not-exists g c =
    let h = c.args.self.now in
    let s = c.args.seat in
    let x = c.args.subject in
    refuses g.B.SealView.held h (deliver s c.args.kind c.args.signer x) h s x NoMessage refl
    (not_there (model h.plan) (world g.B.SealView.held h) s c.args.kind c.args.signer x _ c.in_ok-who.ensures _ c.in_ok-m.ensures (sym c.if-not-exists.ensures)) refl

pub returns : goal.returns
returns g c =
    let h = c.args.self.now in
    let held = g.B.SealView.held in
    let p = model h.plan in
    let w = world held h in
    let s = c.args.seat in
    let kind = c.args.kind in
    let by = c.args.signer in
    let x = c.args.subject in
    let seat_ok = seat_found p (honest p s) s x c.in_ok-who.who.value [] c.in_ok-who.ensures in
    let message_ok = message_found p w s kind by x (means c.in_ok-m.m) [] c.in_ok-m.ensures in
    let i = c.value.result in
    let at = c.value.ensures.same ∙ seat_ok.0 in
    let long : i < length h.seats = search rules in
    let here : get_or h.seats i c.index-self-value.result ≡ get_or h.seats i no_seat =
    sym c.index-self-value.is ∙ get_or_read h.seats i c.index-self-value.result long c.index-self-value.is no_seat in
    let x' = c.receive.new.self in
    let ms : List Said = message kind by x ∷ [] in
    let in_pool : pooled x' ≡ with_all ms (pooled (get_or h.seats i no_seat)) =
    c.receive.ensures.pool ∙ ap₂ (λ (m : Said) (y : Seat). joined m (pooled y)) message_ok.0 here ∙ joined_one (message kind by x) (pooled (get_or h.seats i no_seat)) in
    accepts_call held h (deliver s kind by x) (record { plan = h.plan; tree = h.tree; seats = set h.seats i x'; broadcast = h.broadcast; book = h.book }) refl
    (is_there p w s kind by x _ c.in_ok-who.ensures _ c.in_ok-m.ensures (sym c.if-not-exists.ensures))
    (arrived_at w.made w.parent w.places w.sealed w.posted h.seats i s x' ms at long in_pool (c.receive.ensures.seat ∙ ap seated here))
