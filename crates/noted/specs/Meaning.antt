-- Which blocks are noted.
use Rattle.std.specs.Prelude.{ℕ, Bool, false, not, ◌&&◌, ◌==◌, slice_index_or}
use Rattle.basics.specs.Count.{some_below}
use Rattle.model.specs.Setup.{Plan as Model}
use Rattle.model.specs.Setup.{rank_of, numbers}
use Rattle.noted.specs.declared.blocks.NotedBlocks.{NotedBlocks}

-- the noted blocks, by number
abbrev pub noted_in : NotedBlocks → ℕ → Bool
noted_in x b = slice_index_or x.flags b false

-- whether a block of the rank r is noted
unfoldable pub rank_noted : Model → (ℕ → Bool) → ℕ → Bool
rank_noted p noted r = some_below (λ b. noted b && rank_of p b == r) (numbers p)

-- whether another block than b is noted
unfoldable pub other_noted : Model → (ℕ → Bool) → ℕ → Bool
other_noted p noted b = some_below (λ c. noted c && not (c == b)) (numbers p)
