-- Refused lines, and the list of the first 64 of them.
use Rattle.std.specs.Prelude.{ℕ, cond, List, [], ◌∷◌, ◌++◌, length, nat_lt}
use Rattle.plans.specs.Faults.{plan_fault_number, plan_fault_seat}
use Rattle.hall.specs.Faults.{hall_fault_number, hall_fault_layer, hall_fault_subject}
use Rattle.records.specs.declared.refusal.Refusal.{Refusal}
use Rattle.page.specs.declared.fault.PageFault.{PageFault}
use Rattle.page.specs.declared.fault.PageFault.TheVariants.{Malformed, Plan, Hall}

-- the number of a refusal
abbrev pub fault_number : PageFault → ℕ
fault_number Malformed = 23
fault_number (Plan f) = plan_fault_number f
fault_number (Hall f) = hall_fault_number f

-- the layer that refuses: 1 the page, 2 the plan, 3 the hall and 4 the seat, as the hall says
abbrev pub fault_layer : PageFault → ℕ
fault_layer Malformed = 1
fault_layer (Plan f) = 2
fault_layer (Hall f) = hall_fault_layer f

-- the seat that a refusal names: a call's refusal names the seat s of the call
abbrev pub fault_seat : ℕ → PageFault → ℕ
fault_seat s Malformed = 0
fault_seat s (Plan f) = plan_fault_seat f
fault_seat s (Hall f) = s

-- what it is about: a call's refusal, what the hall says of the subject x that the call names
abbrev pub fault_subject : ℕ → PageFault → ℕ
fault_subject x Malformed = 0
fault_subject x (Plan f) = 0
fault_subject x (Hall f) = hall_fault_subject x f

-- line k, with a call for the seat s that names the subject x, was refused
abbrev pub call_refusal : ℕ → ℕ → ℕ → PageFault → Refusal
call_refusal k s x f = record { line = k; number = fault_number f; layer = fault_layer f; seat = fault_seat s f; subject = fault_subject x f }

-- line k, which is no call, was refused
abbrev pub refusal : ℕ → PageFault → Refusal
refusal k f = call_refusal k 0 0 f

-- one refusal more is listed, up to 64
abbrev pub also : List Refusal → Refusal → List Refusal
also fs f = cond (nat_lt (length fs) 64) (fs ++ f ∷ []) fs
