use Rattle.std.proofs.Common.{◌≡◌, ℕ, ◌<◌, true, List, [], ◌∷◌, length, get_or, sym, refl, ap, ◌∙◌, ap₂, arith, rules}
use borrow.Author.Rules.{get_or_read}
use Rattle.std.proofs.lemmas.Bool.{cond-true}
use Rattle.model.specs.Setup.{honest}
use Rattle.model.specs.World.{message, beacon_share}
use Rattle.model.specs.World.{Message as Said}
use Rattle.messages.specs.Meaning.{means}
use Rattle.messages.specs.Stored.{stored, joined}
use Rattle.seals.specs.Seals.{added}
use Rattle.plans.specs.Planned.{model}
use Rattle.seats.specs.declared.seat.Seat.{Seat}
use Rattle.seats.specs.Seated.{seated, pooled}
use Rattle.seats.specs.Sent.{with_all}
use Rattle.seats.proofs.Posting.{joined_one, added_one, allowed_round}
use Rattle.hall.specs.Worlds.{world, no_seat}
use Rattle.hall.specs.Steps.{posting, sharing}
use Rattle.hall.proofs.Updates.{posted_by}
use Rattle.hall.proofs.hall.Hall.share_first_beacon.Goals as goal

pub returns : goal.returns
returns g c =
    let h = c.args.self.now in
    let held = g.B.SealView.held in
    let p = model h.plan in
    let w = world held h in
    let s = c.args.seat in
    let who : c.capped-who.result.value ≡ s = omega (arith, c.capped-who.ensures, c.requires) in
    let one : c.capped.result.value ≡ 1 = c.capped.ensures in
    let is : means c.sign-share.result ≡ beacon_share s 1 = ap means c.sign-share.ensures.message ∙ ap₂ (message 6) who one in
    let long : s < length h.seats = search rules in
    let here : get_or h.seats s c.index-self-seat.result ≡ get_or h.seats s no_seat =
    sym c.index-self-seat.is ∙ get_or_read h.seats s c.index-self-seat.result long c.index-self-seat.is no_seat in
    let good : honest p s ≡ true = ap (honest p) (sym who) ∙ sym c.if-not-is_honest.ensures in
    let ms : List Said = beacon_share s 1 ∷ [] in
    let in_pool : pooled c.receive.new.self ≡ with_all ms (pooled (get_or h.seats s no_seat)) =
    c.receive.ensures.pool ∙ ap₂ (λ (x : Said) (y : Seat). joined x (pooled y)) is here ∙ joined_one (beacon_share s 1) (pooled (get_or h.seats s no_seat)) in
    let marked : stored c.insert.new.self ≡ with_all ms (stored h.broadcast) =
    c.insert.ensures ∙ ap (λ (x : Said). joined x (stored h.broadcast)) is ∙ joined_one (beacon_share s 1) (stored h.broadcast) in
    let sealed = c.sign-share.ensures.seals ∙ ap₂ (λ (i r : ℕ). added 6 i r (held h.book)) who one ∙ added_one 6 s 1 (held h.book) (allowed_round s 1 c.requires (omega arith) (omega arith)) in
    record {
      plan = refl;
      world = posted_by w.made w.parent w.places (held c.sign-share.new.book) w.posted h.seats s c.receive.new.self ms (stored c.insert.new.self) long
          in_pool (c.receive.ensures.seat ∙ ap seated here) marked
          ∙ (λ i. posting s ms (record { made = w.made; parent = w.parent; places = w.places; sealed = sealed i; pool = w.pool; posted = w.posted; seat = w.seat }))
          ∙ sym (cond-true (honest p s) (sharing s w) w good);
    }
