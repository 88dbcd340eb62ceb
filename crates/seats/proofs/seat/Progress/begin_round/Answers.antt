use Rattle.std.proofs.Common.{rules}
use Rattle.seats.proofs.Beginnings.{none_noted, none_disqualified}
use Rattle.seats.proofs.seat.Progress.begin_round.Goals as goal

pub returns : goal.returns
returns c = search (rules, none_noted, none_disqualified)
