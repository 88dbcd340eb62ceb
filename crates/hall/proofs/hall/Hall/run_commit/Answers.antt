use Rattle.std.proofs.Common.{◌<◌, false, length, refl, ap, ◌∙◌, subst, rules}
use Rattle.model.specs.Checks.Call.{commit}
use Rattle.messages.specs.Stored.{stored}
use Rattle.plans.specs.Planned.{model}
use Rattle.seats.specs.declared.seat.Seat.{Seat}
use Rattle.seats.specs.Seated.{seated, pooled}
use Rattle.seats.specs.Faults.{told}
use Rattle.seats.specs.Sent.{sent}
use Rattle.seats.specs.Desk.{bare_desk, accepts, Rule}
use Rattle.hall.specs.Worlds.{world}
use Rattle.hall.proofs.Updates.{no_seals}
use Rattle.hall.proofs.Rules.{lent, makes_none, ran}
use Rattle.hall.proofs.hall.Hall.run_commit.Goals as goal

pub returns : goal.returns
returns g c =
    let h = c.args.self.now in
    let held = g.B.SealView.held in
    let p = model h.plan in
    let s = c.args.who.value in
    let b = c.args.block.value in
    let x' = c.commit.new.self in
    let i = c.value.result in
    let same = c.value.ensures.same in
    let low : i < length h.seats = search rules in
    let here = lent h.seats i s c.index-seats-value.result low c.index-seats-value.is same in
    let rule = subst (λ (x : Seat). Rule 3 p (bare_desk h.tree x) (commit s b) (told s b c.commit.result) (sent c.commit.result) (seated x') (λ _ _ _. false)) here (c.commit.ensures.within c.requires) in
    let unsealed = no_seals (accepts 3 p (world held h) (commit s b)) (held h.book) in
    ran held h 3 (commit s b) i x' h.tree h.book _ _ low same (ap stored c.commit.ensures.pool ∙ ap pooled here)
    (record { judged = rule.judged; sends = rule.sends; moves = rule.moves; seals_given = unsealed }) (makes_none held h 3 (commit s b) refl)
