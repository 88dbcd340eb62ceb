use Rattle.std.proofs.Common.{◌≡◌, ◌+◌, ◌-◌, ◌*◌, ◌<◌, true, ◌&&◌, ltb, leb, get_or, sym, ◌∙◌, ap₂, arith}
use Rattle.std.proofs.lemmas.Bool.{cond-true, ltb-true, and_parts}
use Rattle.plans.specs.Tables.{rank_in}
use Rattle.draws.specs.Ranks.{drawn}
use Rattle.plans.proofs.plan.Plan.rank.Goals as goal

pub returns : goal.returns
returns c =
    let x = c.args.self.now in
    let n = x.sizes.seats in
    let R = x.sizes.rounds in
    let k = c.args.round.value in
    let s = c.args.seat.value in
    let inside : drawn n R k s ≡ true = sym c.has.ensures ∙ c.if-not-has.false in
    let low : s < n = ltb-true s n (and_parts (ltb s n) (leb 1 k && leb k R) inside).0 in
    let is : rank_in n R x.ranks k s ≡ get_or x.ranks ((c.value-2.result - 1) * 13 + c.value-3.result) 0 =
    cond-true (drawn n R k s) (get_or x.ranks ((k - 1) * 13 + s) 0) s inside
    ∙ ap₂ (λ a b. get_or x.ranks ((a - 1) * 13 + b) 0) (sym c.value-2.ensures.same) (sym c.value-3.ensures.same) in
    let small : rank_in n R x.ranks k s < n = x.below (record { round = k; one = s; other = s; one_low = low; other_low = low }) in
    omega (arith, c.capped-2.ensures, is, small, x.sizes.within.few_seats)
