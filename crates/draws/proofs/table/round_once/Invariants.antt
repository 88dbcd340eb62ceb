-- The ranks seen so far, and that no seat so far is misplaced.
use Rattle.std.proofs.Common.{◌≡◌, false, length, slice_index}
use Rattle.basics.specs.Count.{some_below}
use Rattle.draws.specs.Ranks.{misplaced}
use Rattle.draws.proofs.Judging.{Seen}
use Rattle.draws.proofs.table.round_once.Given as goal

abbrev pub invariant-loop-rank : goal.invariant-loop-rank
invariant-loop-rank l =
    Seen (slice_index l.ranks) l.seen l.rank-index
    × (some_below (misplaced (length l.ranks) (slice_index l.ranks)) l.rank-index ≡ false)
