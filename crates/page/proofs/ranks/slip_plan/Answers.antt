-- The table's plan is made, since the first line and each rank line were judged.
use Rattle.std.proofs.Common.{◌+◌, [], sym, ap, ◌∙◌}
use Rattle.std.proofs.lemmas.Result.{MatchResult-at_ok}
use Rattle.basics.specs.Elements.{elements}
use Rattle.plans.specs.Planned.{model}
use Rattle.lines.specs.Reading.{line_now}
use Rattle.page.specs.Reading.{behind}
use Rattle.page.specs.Ranks.{with_table, table_plan}
use Rattle.page.specs.Run.{collected}
use Rattle.page.specs.declared.types.Sort.TheVariants.{Slips}
use Rattle.page.proofs.AnswerLaws.{plan_made}
use Rattle.page.proofs.FirstLaws.{table_plan_is}
use Rattle.page.proofs.ranks.slip_plan.Goals as goal

pub returns : goal.returns
returns c =
    let u = c.args.start.setup in
    let p = model c.args.start.plan in
    let t = elements c.in_ok-table.table in
    let y = c.read_ranks.new.reader in
    let read = c.in_ok-table.ensures in
    let made = plan_made c.table_plan.result (with_table t p) (c.table_plan.ensures ∙ ap (table_plan u) c.as_slice.ensures ∙ table_plan_is u p t c.args.start.made read.1) in
    rw (MatchResult-at_ok _ _ made.0 made.1 c.map_err.ensures.cases)
    (read.0 ∙ ap (λ q. collected Slips q [] (line_now y + 1) [] (behind y)) (sym made.2))
