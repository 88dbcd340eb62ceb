-- Nothing is found before the lowest noted block, nor after the highest.
use Rattle.std.proofs.Common.{◌≡◌, ℕ, ◌-◌, ◌<◌, min, false, ◌&&◌, get_or, ◌∙◌, rules, tests, arith}
use Rattle.std.proofs.lemmas.Iterator.{YieldsList-from_range, YieldsList-from_map_by}
use Rattle.std.proofs.lemmas.Iterator.Search.{any_from_yields_List}
use Rattle.model.specs.Setup.{numbers}
use Rattle.plans.specs.Planned.{model}
use Rattle.noted.proofs.Searches.{found_between}
use Rattle.noted.proofs.blocks.NotedBlocks.has_such.Goals as goal

pub returns : goal.returns
returns g c = λ p computes.
    let x = c.args.self.now in
    let n = numbers (model c.args.plan.now) in
    let h : ℕ → ℕ = λ k. min k 312 in
    let low : (k : ℕ) → k < x.high → h k ≡ k = (λ k lt. omega (arith, x.short)) in
    any_from_yields_List (λ b. get_or x.flags b false && p b) _ _ c.any.result c.any.ensures.ran
    (YieldsList-from_map_by _ (λ b. b.value) h (YieldsList-from_range x.low c.min.result (min x.high n - x.low) c.map.ensures.source (omega (arith, c.min.ensures, c.numbers.ensures.is))) c.map.ensures.closure (λ b r q k. search rules))
    (λ b r q k. search (rules, tests))
    ∙ found_between x.flags p x.low x.high x.above x.below h n low
