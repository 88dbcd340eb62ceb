-- Which draw is made of what it is given, or why none.
use Rattle.std.specs.Prelude.{ℕ, ◌*◌, Bool, cond, ◌&&◌, List, length, Ok, Err, Result, nat_le}
use Rattle.draws.specs.declared.fault.DrawFault.{DrawFault}
use Rattle.draws.specs.declared.fault.DrawFault.TheVariants.{Sizes, Short, NotOnce}
use Rattle.draws.specs.declared.rotation.Rotation.{Rotation}
use Rattle.draws.specs.declared.table.TableDraw.{TableDraw}
use Rattle.draws.specs.Ranks.{table_rank, some_misplaced}
use Rattle.draws.specs.Rotated.{rotated}

-- what a draw says: how many seats and rounds, and the rank of a seat in a round (the round first)
pub record Meaning : Type 0 where
  pub seats : ℕ
  pub rounds : ℕ
  pub rank : ℕ → ℕ → ℕ

-- the sizes that a draw can have
abbrev pub in_bounds : ℕ → ℕ → Bool
in_bounds n R = (nat_le 1 n && nat_le n 13) && (nat_le 1 R && nat_le R 8)

-- the rotation of n seats and R rounds
abbrev pub rotation_made : ℕ → ℕ → Result Meaning DrawFault
rotation_made n R = cond (in_bounds n R) (Ok (record { seats = n; rounds = R; rank = rotated n })) (Err Sizes)

-- the draw that the listed ranks make: judged by its sizes, its length, its ranks, in this order
abbrev pub table_made : ℕ → ℕ → List ℕ → Result Meaning DrawFault
table_made n R xs =
    cond (in_bounds n R)
    (cond (nat_le (n * R) (length xs))
    (cond (some_misplaced n R (table_rank n R xs)) (Err NotOnce) (Ok (record { seats = n; rounds = R; rank = table_rank n R xs })))
    (Err Short))
    (Err Sizes)

-- what a rotation, if one was made, says
abbrev pub rotation_means : Result Rotation DrawFault → Result Meaning DrawFault
rotation_means (Ok d) = Ok (record { seats = d.sizes.seats; rounds = d.sizes.rounds; rank = rotated d.sizes.seats })
rotation_means (Err f) = Err f

-- what a table draw, if one was made, says
abbrev pub table_means : Result TableDraw DrawFault → Result Meaning DrawFault
table_means (Ok d) = Ok (record { seats = d.sizes.seats; rounds = d.sizes.rounds; rank = table_rank d.sizes.seats d.sizes.rounds d.ranks })
table_means (Err f) = Err f
