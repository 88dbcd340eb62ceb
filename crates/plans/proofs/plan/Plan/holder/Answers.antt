use Rattle.std.proofs.Common.{◌≡◌, ℕ, ◌<◌, Bool, true, false, eqb, Some, None, sym, ap, ◌∙◌, arith, rules, tests}
use Rattle.std.proofs.lemmas.Bool.{cond-true, cond-false}
use Rattle.basics.specs.Count.{some_below}
use Rattle.model.specs.Setup.{holder}
use Rattle.model.proofs.Searches.{find, first_at, none_more}
use Rattle.plans.specs.Planned.{model}
use Rattle.plans.proofs.plan.Plan.holder.Goals as goal

pub loop-s-preserved : goal.loop-s-preserved
loop-s-preserved c =
    let p = model c.args.self.now in
    let k = c.args.round.value in
    let has : ℕ → Bool = λ s. eqb (p.rank k s) c.args.rank.value in
    let at : c.capped-seat.result.value ≡ c.loop-s.s = omega (arith, c.capped-seat.ensures, c.args.self.now.sizes.within.few_seats) in
    let other : eqb c.rank.result.value c.args.rank.value ≡ false = search (rules, tests) in
    none_more has c.loop-s.s c.loop-s.invariant (ap has (sym at) ∙ ap (λ r. eqb r c.args.rank.value) (sym c.rank.ensures) ∙ other)

pub returns-then-eq : goal.returns-then-eq
returns-then-eq c =
    let p = model c.args.self.now in
    let k = c.args.round.value in
    let has : ℕ → Bool = λ s. eqb (p.rank k s) c.args.rank.value in
    let at : c.capped-seat.result.value ≡ c.loop-s.s = omega (arith, c.capped-seat.ensures, c.args.self.now.sizes.within.few_seats) in
    let low : c.loop-s.s < p.n = omega (arith, c.seats-s-end.ensures) in
    let same : eqb c.rank.result.value c.args.rank.value ≡ true = search (rules, tests) in
    let here : has c.loop-s.s ≡ true = ap has (sym at) ∙ ap (λ r. eqb r c.args.rank.value) (sym c.rank.ensures) ∙ same in
    ap Some (at ∙ sym (first_at has p.n c.loop-s.s low c.loop-s.invariant here))
    ∙ sym (cond-true (some_below has p.n) (Some (holder p k c.args.rank.value)) None (find has p.n c.loop-s.s low here))

pub returns : goal.returns
returns c =
    let p = model c.args.self.now in
    let k = c.args.round.value in
    let has : ℕ → Bool = λ s. eqb (p.rank k s) c.args.rank.value in
    let e : c.loop-s.s ≡ p.n = omega (arith, c.seats-s-end.ensures) in
    sym (cond-false (some_below has p.n) (Some (holder p k c.args.rank.value)) None (ap (some_below has) (sym e) ∙ c.loop-s.invariant))
