use Rattle.std.proofs.Common.{ℕ, not, ◌∙◌, rules, tests}
use Rattle.std.proofs.lemmas.Iterator.{YieldsList-from_slice}
use Rattle.std.proofs.lemmas.Iterator.Search.{all_from_yields_List}
use Rattle.plans.specs.Planned.{model}
use Rattle.plans.proofs.Places.{unlike_listed}
use Rattle.plans.proofs.plan.Plan.unlike.Goals as goal

pub returns : goal.returns
returns c =
    let p = model c.args.self.now in
    all_from_yields_List (λ (y : ℕ). not (p.like c.args.x y)) _ _ c.all.result c.all.ensures.ran (YieldsList-from_slice c.args.places.now cc) (λ x b q k. search (rules, tests))
    ∙ unlike_listed p c.args.x c.args.places.now
