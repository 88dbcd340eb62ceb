-- The refusals of a hall, as the rules number them.
use Rattle.std.specs.Prelude.{ℕ, Ok, Err, Result}
use Rattle.model.specs.Checks.{Verdict}
use Rattle.model.specs.Checks.Verdict.{accepted, refused}
use Rattle.seats.specs.Faults.{seat_fault_number, seat_fault_subject}
use Rattle.hall.specs.declared.fault.HallFault.{HallFault}
use Rattle.hall.specs.declared.fault.HallFault.TheVariants.{NoSeat, OtherSort, OutOfRange, WrongRound, Repeated, FourthBlock, NoMessage, Seat}

-- the number of a refusal
abbrev pub hall_fault_number : HallFault → ℕ
hall_fault_number NoSeat = 8
hall_fault_number OtherSort = 9
hall_fault_number OutOfRange = 10
hall_fault_number WrongRound = 17
hall_fault_number Repeated = 16
hall_fault_number FourthBlock = 15
hall_fault_number NoMessage = 22
hall_fault_number (Seat f) = seat_fault_number f

-- the layer that refuses: 3 the hall, 4 the seat
abbrev pub hall_fault_layer : HallFault → ℕ
hall_fault_layer NoSeat = 3
hall_fault_layer OtherSort = 3
hall_fault_layer OutOfRange = 3
hall_fault_layer WrongRound = 3
hall_fault_layer Repeated = 3
hall_fault_layer FourthBlock = 3
hall_fault_layer NoMessage = 3
hall_fault_layer (Seat f) = 4

-- what it is about: the better block, else what the call named
abbrev pub hall_fault_subject : ℕ → HallFault → ℕ
hall_fault_subject x NoSeat = x
hall_fault_subject x OtherSort = x
hall_fault_subject x OutOfRange = x
hall_fault_subject x WrongRound = x
hall_fault_subject x Repeated = x
hall_fault_subject x FourthBlock = x
hall_fault_subject x NoMessage = x
hall_fault_subject x (Seat f) = seat_fault_subject x f

-- the verdict that a refusal gives, for the seat s and the subject x of the call
abbrev pub fault_verdict : ℕ → ℕ → HallFault → Verdict
fault_verdict s x f = refused (hall_fault_number f) (hall_fault_layer f) s (hall_fault_subject x f)

-- the verdict that an answer gives
abbrev pub answer : {A : Type 0} → ℕ → ℕ → Result A HallFault → Verdict
answer s x (Ok _) = accepted
answer s x (Err f) = fault_verdict s x f
