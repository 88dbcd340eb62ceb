use Rattle.std.proofs.Common.{◌≡◌, ◌+◌, ◌<◌, true, sym, ap, ◌∙◌, arith}
use Rattle.basics.specs.Bit.{bit}
use Rattle.basics.specs.Put.{put}
use Rattle.basics.specs.Count.{tally}
use Rattle.basics.proofs.BitLaws.{put_inside}
use Rattle.basics.proofs.CountLaws.{tally_put}
use Rattle.plans.proofs.plan.Plan.name_corrupt.Goals as goal

pub invariant_of-self-clause-rare : goal.invariant_of-self-clause-rare
invariant_of-self-clause-rare c =
    let x = c.args.self.now in
    let n = x.sizes.seats in
    let s = c.args.seat in
    let low : s < n = omega (arith, c.if-seat-seats.false) in
    let more : bit c.with-self.result ≡ put s true (bit x.corrupt) = c.with-self.ensures ∙ put_inside 16 s true (bit x.corrupt) (omega (arith, x.sizes.within.few_seats)) in
    let one : tally (bit c.with-self.result) n ≡ tally (bit x.corrupt) n + 1 = ap (λ f. tally f n) more ∙ tally_put (bit x.corrupt) n s low (sym c.if-has.ensures) in
    let same : c.size_below.result ≡ tally (bit x.corrupt) n = c.size_below.ensures.count ∙ ap (tally (bit x.corrupt)) c.seats-seats.ensures in
    omega (arith, one, same)
