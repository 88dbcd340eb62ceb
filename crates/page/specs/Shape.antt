-- What a report of the code says of a seat of the rules.
use Rattle.std.specs.Prelude.{◌≡◌, ◌≤◌, take}
use Rattle.model.specs.World.{Seat}
use Rattle.records.specs.declared.seat.SeatReport.{SeatReport}
use Rattle.page.specs.Record.{state}

-- a report says how a seat stands
pub record Reported (r : SeatReport) (x : Seat) : Type 0 where
  pub state_is : r.state ≡ state x.phase
  pub round_is : r.round ≡ x.round
  pub k_max_is : r.k_max ≡ x.k_max
  pub few : r.count ≤ 8
  pub blocks_are : take r.count r.catalogue ≡ x.catalogue
