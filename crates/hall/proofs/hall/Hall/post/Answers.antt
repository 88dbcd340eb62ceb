use Rattle.std.proofs.Common.{◌≡◌, ℕ, ◌<◌, length, get_or, sym, refl, ap, ◌∙◌, rules}
use borrow.Author.Rules.{get_or_read}
use Rattle.messages.specs.Stored.{stored}
use Rattle.tree.specs.Blocks.{mades, parents, payloads}
use Rattle.seats.specs.declared.seat.Seat.{Seat}
use Rattle.seats.specs.Seated.{seated, pooled}
use Rattle.seats.specs.Sent.{listed, with_all}
use Rattle.hall.specs.Worlds.{world, no_seat}
use Rattle.hall.specs.Steps.{posting}
use Rattle.hall.proofs.Updates.{posted_by}
use Rattle.hall.proofs.hall.Hall.post.Goals as goal

pub returns : goal.returns
returns g c =
    let h = c.args.self.now in
    let i = c.value.result in
    let long : i < length h.seats = search rules in
    let here : get_or h.seats i c.index-self-value.result ≡ get_or h.seats i no_seat = sym c.index-self-value.is ∙ get_or_read h.seats i c.index-self-value.result long c.index-self-value.is no_seat in
    let ms = listed c.args.outgoing in
    let at_i = posted_by (mades h.tree) (parents h.tree) (payloads h.tree) (g.B.SealView.held h.book) (stored h.broadcast) h.seats
    i c.post.new.self ms (stored c.post.new.marks) long
    (c.post.ensures.pool ∙ ap (λ (x : Seat). with_all ms (pooled x)) here) (c.post.ensures.seat ∙ ap seated here) c.post.ensures.marks in
    record { plan = refl; world = at_i ∙ ap (λ (s : ℕ). posting s ms (world g.B.SealView.held h)) c.value.ensures.same }
