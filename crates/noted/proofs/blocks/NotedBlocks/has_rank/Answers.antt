use Rattle.std.proofs.Common.{rules, tests, eqb, ℕ}
use Rattle.model.specs.Setup.{rank_of}
use Rattle.plans.specs.Planned.{model}
use Rattle.noted.specs.Meaning.{rank_noted}
use Rattle.noted.proofs.blocks.NotedBlocks.has_rank.Goals as goal

pub returns : goal.returns
unfolding rank_noted
returns c = c.has_such.ensures (λ (b : ℕ). eqb (rank_of (model c.args.plan.now) b) c.args.rank.value) (λ b r called. search (rules, tests))
