-- The refusals of a plan, by number and seat.
use Rattle.std.specs.Prelude.{ℕ}
use Rattle.draws.specs.Faults.{draw_fault_number}
use Rattle.plans.specs.declared.fault.PlanFault.{PlanFault}
use Rattle.plans.specs.declared.fault.PlanFault.TheVariants.{Draw, TooFewSeats, LongDelay, Corrupt, ManyEntries}

-- the number of a refusal
abbrev pub plan_fault_number : PlanFault → ℕ
plan_fault_number (Draw f) = draw_fault_number f
plan_fault_number TooFewSeats = 2
plan_fault_number LongDelay = 3
plan_fault_number (Corrupt s) = 5
plan_fault_number ManyEntries = 7

-- the seat that it names: only a seat that cannot be corrupt is named
abbrev pub plan_fault_seat : PlanFault → ℕ
plan_fault_seat (Draw f) = 0
plan_fault_seat TooFewSeats = 0
plan_fault_seat LongDelay = 0
plan_fault_seat (Corrupt s) = s
plan_fault_seat ManyEntries = 0
