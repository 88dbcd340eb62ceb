-- The sizes of a mirror.
use Rattle.std.specs.Prelude.{ℕ, cond, Some, None, Option}
use Rattle.draws.specs.Made.{in_bounds}
use Rattle.client.specs.declared.mirror.Mirror.{Mirror}

-- how many seats and rounds it has, if one was made
abbrev pub sizes : Option Mirror → Option (ℕ × ℕ)
sizes (Some d) = Some (d.sizes.seats, d.sizes.rounds)
sizes None = None

-- the sizes asked for, if a draw can have them
abbrev pub sized : ℕ → ℕ → Option (ℕ × ℕ)
sized n rounds = cond (in_bounds n rounds) (Some (n, rounds)) None
