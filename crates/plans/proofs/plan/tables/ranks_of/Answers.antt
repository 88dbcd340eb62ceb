use Rattle.std.proofs.Common.{◌≡◌, ◌+◌, ◌/◌, ◌%◌, cond, rules}
use Rattle.draws.specs.Ranks.{drawn}
use Rattle.plans.proofs.Filled.{filled}
use Rattle.plans.proofs.plan.tables.ranks_of.Goals as goal

pub returns : goal.returns
returns g c =
    let D = g.D.Draw in
    let dr = c.args.draw.now in
    λ i low. filled (λ j r. r ≡ cond (drawn (D.seats dr) (D.rounds dr) (j / 13 + 1) (j % 13)) (D.rank dr (j / 13 + 1) (j % 13)) 0) c.from_fn.result c.from_fn.ensures.items
    (λ j y q called. search rules) i 0 low
