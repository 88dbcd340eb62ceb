-- How a seat stands, as the rules speak of it.
use Rattle.std.specs.Prelude.{◌≡◌, ◌≤◌, length}
use Rattle.basics.specs.Elements.{elements}
use Rattle.model.specs.World.{Seat}
use Rattle.seats.specs.declared.seat.Standing.{Standing}
use Rattle.seats.specs.Seated.{stage}

-- what the code says of a seat is what the rules say of it
pub record Stands (x : Standing) (st : Seat) : Type 0 where
  pub phase_is : stage x.phase ≡ st.phase
  pub round_is : x.round.value ≡ st.round
  pub k_max_is : length (elements x.catalogue) ≡ st.k_max
  pub few : length (elements x.catalogue) ≤ 8
  pub blocks_are : elements x.catalogue ≡ st.catalogue
