-- The refusals of a seat, as the rules number them.
use Rattle.std.specs.Prelude.{ℕ, Ok, Err, Result}
use Rattle.model.specs.Checks.{Verdict}
use Rattle.model.specs.Checks.Verdict.{accepted, refused}
use Rattle.seats.specs.declared.fault.SeatFault.{SeatFault}
use Rattle.seats.specs.declared.fault.SeatFault.TheVariants.{Clock, Phase, FewBeaconShares, TooSoon, ProposedBefore, EchoedBefore, WrongRound, NotValid, Unsound, Better, NotCombined}

-- the number of a refusal
abbrev pub seat_fault_number : SeatFault → ℕ
seat_fault_number Clock = 11
seat_fault_number Phase = 12
seat_fault_number FewBeaconShares = 13
seat_fault_number TooSoon = 14
seat_fault_number ProposedBefore = 15
seat_fault_number EchoedBefore = 16
seat_fault_number WrongRound = 17
seat_fault_number NotValid = 18
seat_fault_number Unsound = 19
seat_fault_number (Better c) = 20
seat_fault_number NotCombined = 21

-- what it is about: the better block, else what the call named
abbrev pub seat_fault_subject : ℕ → SeatFault → ℕ
seat_fault_subject x Clock = x
seat_fault_subject x Phase = x
seat_fault_subject x FewBeaconShares = x
seat_fault_subject x TooSoon = x
seat_fault_subject x ProposedBefore = x
seat_fault_subject x EchoedBefore = x
seat_fault_subject x WrongRound = x
seat_fault_subject x NotValid = x
seat_fault_subject x Unsound = x
seat_fault_subject x (Better c) = c.value
seat_fault_subject x NotCombined = x

-- the verdict that a rule's answer gives, for the seat s and the subject x of the call; a seat's refusals are of layer 4
abbrev pub told : {A : Type 0} → ℕ → ℕ → Result A SeatFault → Verdict
told s x (Ok _) = accepted
told s x (Err f) = refused (seat_fault_number f) 4 s (seat_fault_subject x f)
