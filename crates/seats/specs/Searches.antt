-- What an echo and a finish look for among a seat's blocks.
use Rattle.std.specs.Prelude.{ℕ, min, Bool, ◌||◌, Option, nat_le}
use Rattle.basics.specs.Count.{tally, some_below, first_below}
use Rattle.basics.specs.Numbers.{only_if}
use Rattle.model.specs.Setup.{Plan as Model}
use Rattle.model.specs.Setup.{number, holder, quorum}
use Rattle.model.specs.World.{message}
use Rattle.model.specs.World.{Message as Said}
use Rattle.model.specs.Checks.{better, some_better, first_better, noted_rank, noted_other}
use Rattle.tree.specs.declared.tree.Tree.{Tree}
use Rattle.seats.specs.declared.seat.Seat.{Seat}
use Rattle.seats.specs.Seated.{seated}
use Rattle.seats.specs.Desk.{bare_desk}

-- whether c is better than a rank
unfoldable pub better_in : Model → Tree → Seat → ℕ → ℕ → Bool
better_in p t x r c = better p (bare_desk t x) 0 r c

-- the block of the seat's round, of rank q and variant v (past 2 the last)
abbrev pub block_of_rank : Model → Seat → ℕ → ℕ → ℕ
block_of_rank p x q v = number p x.progress.round.value (holder p x.progress.round.value q) (min v 2)

-- the first block of rank q that is better than a rank, if there is one
unfoldable pub best_in_rank : Model → Tree → Seat → ℕ → ℕ → Option ℕ
best_in_rank p t x r q =
    let better_variant : ℕ → Bool = λ v. better_in p t x r (block_of_rank p x q v) in
    only_if (some_below better_variant 3) (block_of_rank p x q (first_below better_variant 3))

-- the first block that is better than a rank, if there is one
unfoldable pub best_in : Model → Tree → Seat → ℕ → Option ℕ
best_in p t x r = only_if (some_better p (bare_desk t x) 0 r) (first_better p (bare_desk t x) 0 r)

-- whether a block of this rank is noted
unfoldable pub rank_noted : Model → Seat → ℕ → Bool
rank_noted p x r = noted_rank p (seated x) r

-- whether another block than b is noted
unfoldable pub other_noted : Model → Seat → ℕ → Bool
other_noted p x b = noted_other p (seated x) b

-- whether a pool holds a quorum of the shares of this kind on this subject
abbrev pub quorum_in : Model → (Said → Bool) → ℕ → ℕ → Bool
quorum_in p pool kind x = nat_le (quorum p) (tally (λ s. pool (message kind s x)) p.n)

-- whether a pool holds the whole, or a quorum of shares
unfoldable pub combined_in : Model → (Said → Bool) → ℕ → ℕ → ℕ → Bool
combined_in p pool kind whole b = pool (message whole 0 b) || quorum_in p pool kind b
