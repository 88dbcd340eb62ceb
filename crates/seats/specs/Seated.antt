-- The seat of the rules that a seat of the code stands for.
use Rattle.std.specs.Prelude.{Bool, false, length, slice_index_or}
use Rattle.basics.specs.Bit.{bit}
use Rattle.basics.specs.Elements.{elements}
use Rattle.model.specs.World.{Phase as Stage}
use Rattle.model.specs.World.{Seat as ModelSeat}
use Rattle.model.specs.World.Phase.{waiting, in_round, done}
use Rattle.model.specs.World.{Message as Said}
use Rattle.messages.specs.Stored.{stored}
use Rattle.seats.specs.declared.seat.Phase.{Phase}
use Rattle.seats.specs.declared.seat.Phase.TheVariants.{Waiting, InRound, Done}
use Rattle.seats.specs.declared.seat.Progress.{Progress}
use Rattle.seats.specs.declared.seat.Seat.{Seat}

-- the phase
abbrev pub stage : Phase → Stage
stage Waiting = waiting
stage InRound = in_round
stage Done = done

-- the seat of the rules that has come so far
abbrev pub progressed : Progress → ModelSeat
progressed x = record {
  phase = stage x.phase;
  round = x.round.value;
  clock = x.clock;
  start = x.start;
  proposed = x.proposed;
  noted = λ b. slice_index_or x.noted b false;
  disqualified = bit x.disqualified;
  k_max = length (elements x.catalogue);
  catalogue = elements x.catalogue;
}

-- the seat of the rules
abbrev pub seated : Seat → ModelSeat
seated x = progressed x.progress

-- the pool of a seat
abbrev pub pooled : Seat → Said → Bool
pooled x = stored x.pool
