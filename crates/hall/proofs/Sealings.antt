-- The seal of a corrupt seat: what refuses it, that it is accepted where nothing does, and that it can then be in a book.
use Rattle.std.proofs.Common.{◌≡◌, ℕ, Bool, true, false, not, ◌||◌, eqb, Ok, Err, arith}
use Rattle.std.proofs.lemmas.Bool.Decides.{nat_tests}
use Rattle.model.specs.Setup.{Plan as Model}
use Rattle.model.specs.Setup.{honest}
use Rattle.model.specs.World.{World}
use Rattle.model.specs.World.{Message as Said}
use Rattle.model.specs.Checks.{verdict, in_range}
use Rattle.model.specs.Checks.Call.{seal}
use Rattle.model.specs.Checks.Verdict.{accepted}
use Rattle.plans.specs.declared.plan.Plan.{Plan}
use Rattle.plans.specs.Planned.{model}
use Rattle.seals.specs.Seals.{allowed}
use Rattle.hall.specs.declared.fault.HallFault.{HallFault}
use Rattle.hall.specs.declared.fault.HallFault.TheVariants.{OutOfRange, Repeated}
use Rattle.hall.specs.Faults.{fault_verdict}
use Rattle.hall.specs.Answers.{seat_if, message_if}

module _ (p : Model) (w : World) (s kind x : ℕ) where
  -- whether messages of this kind are sealed by one seat
  abbrev shared : Bool
  shared = eqb kind 2 || (eqb kind 4 || eqb kind 6)

  module _ (i : ℕ) (seat : Ok i ≡ seat_if p (not (honest p s)) s) where
    pub wrong_kind : shared ≡ false → fault_verdict s x OutOfRange ≡ verdict p w (seal s kind x)
    wrong_kind e = grind arith

    pub no_message : (f : HallFault) → Err f ≡ message_if p w kind s x → fault_verdict s x f ≡ verdict p w (seal s kind x)
    no_message f e = grind arith

    module _ (m : Said) (said : Ok m ≡ message_if p w kind s x) (fits : shared ≡ true) where
      pub sealed_before : w.sealed kind s x ≡ true → fault_verdict s x Repeated ≡ verdict p w (seal s kind x)
      sealed_before e = grind arith

      pub sealable : w.sealed kind s x ≡ false → accepted ≡ verdict p w (seal s kind x)
      sealable e = grind arith

-- what is past the check can be sealed
pub sealable_allowed : (y : Plan) (w : World) (s kind x : ℕ) → (eqb kind 2 || (eqb kind 4 || eqb kind 6)) ≡ true → in_range (model y) w kind s x ≡ true → allowed kind s x ≡ true
sealable_allowed y w s kind x fits r = grind (arith, nat_tests)
