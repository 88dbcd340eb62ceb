use Rattle.std.proofs.Common.{min, refl, ap, ◌∙◌, rules}
use Rattle.std.proofs.lemmas.Iterator.{YieldsList-from_range, YieldsList-from_map_by}
use Rattle.std.proofs.lemmas.Iterator.Consumers.{YieldsList-at}
use Rattle.std.proofs.lemmas.Iterator.Search.{find_from_yields_List}
use Rattle.basics.specs.Numbers.{block_value}
use Rattle.basics.specs.declared.numbers.BlockNumber.{BlockNumber}
use Rattle.model.specs.Setup.{number}
use Rattle.plans.specs.Planned.{model}
use Rattle.plans.proofs.Lawfulness.{plan_is_lawful}
use Rattle.seats.specs.Searches.{better_in}
use Rattle.seats.proofs.Finds.{none_holds, first_of_rank}
use Rattle.seats.proofs.seat.Seat.best_of_rank.Goals as goal

pub returns-in_err-maker : goal.returns-in_err-maker
returns-in_err-maker c =
    ap block_value c.from_residual.ensures
    ∙ none_holds (model c.args.plan.now) c.args.tree.now c.args.self.now c.args.rank.value (plan_is_lawful c.args.plan.now) c.args.q.value (c.in_err-maker.ensures)

pub returns : goal.returns
returns c =
    let p = model c.args.plan.now in
    let t = c.args.tree.now in
    let x = c.args.self.now in
    let r = c.args.rank.value in
    let m = c.in_ok-maker.maker.value in
    first_of_rank p t x r c.args.q.value m c.in_ok-maker.ensures c.find.result
    (find_from_yields_List (better_in p t x r) _ _ c.find.result c.find.ensures.ran
    (YieldsList-from_map_by _ (λ (b : BlockNumber). b.value) (λ v. number p x.progress.round.value m (min v 2)) (YieldsList-at c.map.ensures.source (YieldsList-from_range 0 3 3 refl refl))
    c.map.ensures.closure (λ v b f k. search rules))
    (λ b a f k. search rules))
