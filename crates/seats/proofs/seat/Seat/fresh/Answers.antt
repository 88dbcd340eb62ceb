use Rattle.std.proofs.Common.{◌≡◌, rules}
use Rattle.seats.proofs.Beginnings.{none_noted, none_disqualified}
use Rattle.seats.proofs.seat.Seat.fresh.Goals as goal

pub returns-clause-seat : goal.returns-clause-seat
returns-clause-seat c =
    let round : c.capped.result.value ≡ 1 = c.capped.ensures in
    search (rules, none_noted, none_disqualified, round, c.empty.ensures)
