use Rattle.std.proofs.Common.{ℕ, min, Bool, ◌∙◌, rules}
use borrow.Author.Tests.{tests}
use Rattle.std.proofs.lemmas.Iterator.Consumers.{YieldsList-at, YieldsList-from_filter, count_from_yields_List}
use Rattle.model.specs.Setup.{number}
use Rattle.plans.specs.Planned.{model}
use Rattle.tree.specs.Blocks.{mades}
use Rattle.hall.proofs.Counts.{range_below, length-filter-range}
use Rattle.hall.proofs.hall.Hall.forged_count.Goals as goal

pub returns : goal.returns
returns g c =
    let h = c.args.self.now in
    let test : ℕ → Bool = λ v. mades h.tree (number (model h.plan) c.args.round.value c.args.who.value (min v 2)) in
    count_from_yields_List c.filter.result c.count.result c.count.ensures.ran
    (YieldsList-from_filter _ test (YieldsList-at c.filter.ensures.source (range_below 3)) c.filter.ensures.closure (λ x r q k. search (rules, tests)))
    ∙ length-filter-range test 3
