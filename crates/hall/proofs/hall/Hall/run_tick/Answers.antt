use Rattle.std.proofs.Common.{◌≡◌, ℕ, ◌<◌, Bool, true, false, cond, ◌&&◌, leb, [], length, get_or, Ok, Err, Result, refl, ap, ◌∙◌, rules}
use Rattle.model.specs.Checks.Verdict.{accepted, refused}
use Rattle.model.specs.Checks.Call.{tick}
use Rattle.model.specs.Effects.{is_accepted}
use Rattle.model.specs.Seats.{at_clock}
use Rattle.messages.specs.Stored.{stored}
use Rattle.plans.specs.Planned.{model}
use Rattle.seats.specs.declared.seat.Seat.{Seat}
use Rattle.seats.specs.declared.fault.SeatFault.{SeatFault}
use Rattle.seats.specs.declared.fault.SeatFault.TheVariants.{Clock}
use Rattle.seats.specs.Seated.{seated, pooled}
use Rattle.seats.specs.Faults.{told}
use Rattle.seats.specs.Desk.{accepts}
use Rattle.hall.specs.Worlds.{world, no_seat}
use Rattle.hall.proofs.Updates.{cond_same, no_seals}
use Rattle.hall.proofs.Rules.{lent, makes_none, ran}
use Rattle.hall.proofs.hall.Hall.run_tick.Goals as goal

-- the answer of a clock, as a verdict
said : (ok : Bool) (s : ℕ) (r : Result (Unit {0}) SeatFault) → r ≡ cond ok (Ok tt) (Err Clock) → told s 0 r ≡ cond ok accepted (refused 11 4 s 0)
said true s r e = ap (told s 0) e
said false s r e = ap (told s 0) e

accepts_if : (ok : Bool) (s : ℕ) → ok ≡ is_accepted (cond ok accepted (refused 11 4 s 0))
accepts_if true s = refl
accepts_if false s = refl

pub returns : goal.returns
returns g c =
    let h = c.args.self.now in
    let held = g.B.SealView.held in
    let s = c.args.who.value in
    let time = c.args.time in
    let i = c.value.result in
    let same = c.value.ensures.same in
    let low : i < length h.seats = search rules in
    let here = lent h.seats i s c.index-self-value.result low c.index-self-value.is same in
    let ok : Seat → Bool = λ x. leb x.progress.clock time && leb time 1000000000 in
    let x = get_or h.seats s no_seat in
    let x' = c.tick.new.self in
    let answer = c.tick.ensures.answer ∙ ap (λ (y : Seat). cond {A = Result (Unit {0}) SeatFault} (ok y) (Ok tt) (Err Clock)) here in
    let go = accepts 2 (model h.plan) (world held h) (tick s time) in
    let moves : seated x' ≡ cond go (at_clock time (seated x)) (seated x) =
    c.tick.ensures.seat ∙ ap (λ (y : Seat). cond (ok y) (at_clock time (seated y)) (seated y)) here ∙ ap (λ (b : Bool). cond b (at_clock time (seated x)) (seated x)) (accepts_if (ok x) s) in
    ran held h 2 (tick s time) i x' h.tree h.book _ _ low same (ap stored c.tick.ensures.pool ∙ ap pooled here)
    (record { judged = said (ok x) s c.tick.result answer; sends = cond_same go []; moves = moves; seals_given = no_seals go (held h.book) }) (makes_none held h 2 (tick s time) refl)
