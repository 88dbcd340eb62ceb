use Rattle.std.proofs.Common.{◌≡◌, ℕ, replicate, Ok, sym, ap, ◌∙◌, subst, arith}
use Rattle.plans.specs.Tables.{rank_in, RanksBelow, RanksApart}
use Rattle.plans.specs.Setup.{drawn_rank, planned}
use Rattle.plans.proofs.Drawn.{rank_taken, ranks_below, ranks_apart}
use Rattle.plans.proofs.Fresh.{none_corrupt, fresh_is, planned_is}
use Rattle.plans.proofs.plan.Plan.new.Goals as goal

pub invariant_of-result-clause-rare : goal.invariant_of-result-clause-rare
invariant_of-result-clause-rare g c = none_corrupt _ _

pub invariant_of-result-clause-below : goal.invariant_of-result-clause-below
invariant_of-result-clause-below g c =
    let D = g.D.Draw in
    let dr = c.args.draw.now in
    let s = c.in_ok-sizes.sizes in
    let ranks = c.ranks_of-ranks.result in
    let en : D.seats dr ≡ s.seats = sym (c.in_ok-sizes.ensures.same.0 ∙ c.seat_count.ensures) in
    let eR : D.rounds dr ≡ s.rounds = sym (c.in_ok-sizes.ensures.same.1 ∙ c.round_count.ensures) in
    let low = ranks_below (D.seats dr) (D.rounds dr) (D.rank dr) ranks (D.within dr).few_seats (D.within dr).few_rounds c.ranks_of-ranks.ensures (D.once dr) in
    subst (λ (m : ℕ). RanksBelow m s.rounds ranks) en (subst (λ (k : ℕ). RanksBelow (D.seats dr) k ranks) eR low)

pub invariant_of-result-clause-apart : goal.invariant_of-result-clause-apart
invariant_of-result-clause-apart g c =
    let D = g.D.Draw in
    let dr = c.args.draw.now in
    let s = c.in_ok-sizes.sizes in
    let ranks = c.ranks_of-ranks.result in
    let en : D.seats dr ≡ s.seats = sym (c.in_ok-sizes.ensures.same.0 ∙ c.seat_count.ensures) in
    let eR : D.rounds dr ≡ s.rounds = sym (c.in_ok-sizes.ensures.same.1 ∙ c.round_count.ensures) in
    let apart = ranks_apart (D.seats dr) (D.rounds dr) (D.rank dr) ranks (D.within dr).few_seats (D.within dr).few_rounds c.ranks_of-ranks.ensures (D.once dr) in
    subst (λ (m : ℕ). RanksApart m s.rounds ranks) en (subst (λ (k : ℕ). RanksApart (D.seats dr) k ranks) eR apart)

pub returns : goal.returns
returns g c =
    let D = g.D.Draw in
    let dr = c.args.draw.now in
    let s = c.in_ok-sizes.sizes in
    let ranks = c.ranks_of-ranks.result in
    let en : s.seats ≡ D.seats dr = c.in_ok-sizes.ensures.same.0 ∙ c.seat_count.ensures in
    let eR : s.rounds ≡ D.rounds dr = c.in_ok-sizes.ensures.same.1 ∙ c.round_count.ensures in
    let taken = rank_taken (D.seats dr) (D.rounds dr) (D.rank dr) ranks (D.within dr).few_seats (D.within dr).few_rounds c.ranks_of-ranks.ensures in
    let here : rank_in s.seats s.rounds ranks ≡ drawn_rank s.seats s.rounds (D.rank dr) =
    (λ i. rank_in (en i) (eR i) ranks) ∙ taken ∙ sym (λ i. drawn_rank (en i) (eR i) (D.rank dr)) in
    ap Ok (fresh_is s.seats s.rounds (D.rank dr) c.args.most_corrupt c.args.d c.args.e ranks (replicate {A = ℕ} 128 0) here)
    ∙ planned_is s.seats s.rounds (D.rank dr) c.args.most_corrupt c.args.d c.args.e (omega (arith, c.seats.ensures)) c.if-d-gt10000.false c.if-e-gt10000.false
    ∙ (λ i. planned (en i) (eR i) (D.rank dr) c.args.most_corrupt c.args.d c.args.e)
