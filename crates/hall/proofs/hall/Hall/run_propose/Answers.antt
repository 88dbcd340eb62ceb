use Rattle.std.proofs.Common.{◌<◌, false, length, ap, ◌∙◌, subst, rules}
use Rattle.model.specs.Checks.Call.{propose}
use Rattle.messages.specs.Stored.{stored}
use Rattle.plans.specs.Planned.{model}
use Rattle.tree.specs.Payloads.{listed}
use Rattle.seats.specs.declared.seat.Seat.{Seat}
use Rattle.seats.specs.Seated.{seated, pooled}
use Rattle.seats.specs.Faults.{told}
use Rattle.seats.specs.Sent.{sent}
use Rattle.seats.specs.Desk.{bare_desk, accepts, Rule, Makes}
use Rattle.hall.specs.Worlds.{world}
use Rattle.hall.proofs.Updates.{no_seals}
use Rattle.hall.proofs.Rules.{lent, ran}
use Rattle.hall.proofs.hall.Hall.run_propose.Goals as goal

pub returns : goal.returns
returns g c =
    let h = c.args.self.now in
    let held = g.B.SealView.held in
    let p = model h.plan in
    let s = c.args.who.value in
    let b = c.args.parent.value in
    let xs = listed c.args.payload in
    let x' = c.propose.new.self in
    let i = c.value.result in
    let same = c.value.ensures.same in
    let low : i < length h.seats = search rules in
    let here = lent h.seats i s c.index-self-value.result low c.index-self-value.is same in
    let rule = subst (λ (x : Seat). Rule 3 p (bare_desk h.tree x) (propose s b xs) (told s b c.propose.result) (sent c.propose.result) (seated x') (λ _ _ _. false)) here c.propose.ensures.rule in
    let makes = subst (λ (x : Seat). Makes 3 p (bare_desk h.tree x) (propose s b xs) c.propose.new.tree) here c.propose.ensures.blocks in
    let unsealed = no_seals (accepts 3 p (world held h) (propose s b xs)) (held h.book) in
    ran held h 3 (propose s b xs) i x' c.propose.new.tree h.book _ _ low same (ap stored c.propose.ensures.pool ∙ ap pooled here)
    (record { judged = rule.judged; sends = rule.sends; moves = rule.moves; seals_given = unsealed }) (record { made = makes.made; parent = makes.parent; places = makes.places })
