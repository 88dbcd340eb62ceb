-- The first line: the plan that it makes, or why it is refused.
use Rattle.std.specs.Prelude.{ℕ, zero, suc, ◌+◌, cond, Ok, Err, Option, Some, Result}
use Rattle.basics.specs.Bit.{bit}
use Rattle.model.specs.Setup.{Plan as Model}
use Rattle.draws.specs.Made.{in_bounds}
use Rattle.draws.specs.Rotated.{rotated}
use Rattle.draws.specs.declared.fault.DrawFault.TheVariants.{Sizes}
use Rattle.plans.specs.Setup.{planned, can_be_corrupt, named_corrupt, with_corrupt}
use Rattle.plans.specs.declared.fault.PlanFault.{PlanFault}
use Rattle.plans.specs.declared.fault.PlanFault.TheVariants.{Draw}
use Rattle.frames.specs.declared.frame.Setup.{Setup}
use Rattle.frames.specs.Frames.{Frame}
use Rattle.frames.specs.Frames.Frame.{opening}
use Rattle.page.specs.declared.fault.PageFault.{PageFault}
use Rattle.page.specs.declared.fault.PageFault.TheVariants.{Malformed, Plan}

-- a seat is named corrupt if its bit is set: the answer, and the plan after
abbrev pub marked_answer : ℕ → ℕ → Model → Result (Unit {0}) PlanFault
marked_answer corrupt s p = cond (bit corrupt s) (named_corrupt p s) (Ok tt)

abbrev pub marked : ℕ → ℕ → Model → Model
marked corrupt s p = cond (bit corrupt s) (cond (can_be_corrupt p s) (with_corrupt s p) p) p

abbrev pub unless_refused : Result (Unit {0}) PlanFault → Result Model PlanFault → Result Model PlanFault
unless_refused (Ok _) next = next
unless_refused (Err f) next = Err f

-- the seats from s up, as many as are left to look at: the first that cannot be named is refused
unfoldable pub named : ℕ → ℕ → ℕ → Model → Result Model PlanFault
named corrupt zero s p = Ok p
named corrupt (suc left) s p = unless_refused (marked_answer corrupt s p) (named corrupt left (s + 1) (marked corrupt s p))

-- bit s of corrupt is seat s, up to 15
abbrev pub then_named : ℕ → Result Model PlanFault → Result Model PlanFault
then_named corrupt (Ok p) = named corrupt 16 0 p
then_named corrupt (Err f) = Err f

-- the plan of a draw of n seats and R rounds with what the first line says
abbrev pub plan_with : ℕ → ℕ → (ℕ → ℕ → ℕ) → Setup → Result Model PlanFault
plan_with n R rank u = then_named u.corrupt (planned n R rank u.t u.d u.e)

-- The plan that the first line makes by itself, with the ranks of the rotation: its sizes are judged first.
abbrev pub first_plan : Setup → Result Model PlanFault
first_plan u = cond (in_bounds u.n u.rounds) (plan_with u.n u.rounds (rotated u.n) u) (Err (Draw Sizes))

abbrev pub as_page : Result Model PlanFault → Result Model PageFault
as_page (Ok p) = Ok p
as_page (Err f) = Err (Plan f)

-- what a line says in the place of the first line
abbrev pub judged : Option Frame → Result Model PageFault
judged (Some (opening u)) = as_page (first_plan u)
judged _ = Err Malformed
