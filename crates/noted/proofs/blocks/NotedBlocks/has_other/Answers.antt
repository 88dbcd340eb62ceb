use Rattle.std.proofs.Common.{rules, tests, not, eqb, ℕ}
use Rattle.noted.specs.Meaning.{other_noted}
use Rattle.noted.proofs.blocks.NotedBlocks.has_other.Goals as goal

pub returns : goal.returns
unfolding other_noted
returns c = c.has_such.ensures (λ (b : ℕ). not (eqb b c.args.block.value)) (λ b r called. search (rules, tests))
