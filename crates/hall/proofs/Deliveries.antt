-- A delivery: what refuses it, and that it is accepted where the message exists.
use Rattle.std.proofs.Common.{◌≡◌, ℕ, true, false, cond, drop, Ok, Err, ap, ◌∙◌, sym, arith}
use Rattle.model.specs.Setup.{Plan as Model}
use Rattle.model.specs.Setup.{honest}
use Rattle.model.specs.World.{World, exists}
use Rattle.model.specs.World.{Message as Said}
use Rattle.model.specs.Checks.{checks, verdict}
use Rattle.model.specs.Checks.Call.{deliver}
use Rattle.model.specs.Checks.Verdict.{accepted, refused}
use Rattle.hall.specs.declared.fault.HallFault.{HallFault}
use Rattle.hall.specs.declared.fault.HallFault.TheVariants.{NoMessage}
use Rattle.hall.specs.Faults.{fault_verdict}
use Rattle.hall.specs.Answers.{seat_if, message_if}
use Rattle.hall.proofs.Steps.{seat_found, message_found}

module _ (p : Model) (w : World) (s kind signer x : ℕ) where
  module _ (i : ℕ) (seat : Ok i ≡ seat_if p (honest p s) s) where
    pub no_message : (f : HallFault) → Err f ≡ message_if p w kind signer x → fault_verdict s x f ≡ verdict p w (deliver s kind signer x)
    no_message f e = grind arith

    module _ (m : Said) (said : Ok m ≡ message_if p w kind signer x) where
      last_check : verdict p w (deliver s kind signer x) ≡ cond (exists p w m) accepted (refused 22 3 s x)
      last_check =
          let a = seat_found p (honest p s) s x i (drop 2 (checks p w (deliver s kind signer x))) seat in
          let b = message_found p w s kind signer x m (drop 3 (checks p w (deliver s kind signer x))) said in
          a.1.1 ∙ b.1.1 ∙ ap (λ n. cond (exists p w n) accepted (refused 22 3 s x)) (sym b.0)

      pub not_there : exists p w m ≡ false → fault_verdict s x NoMessage ≡ verdict p w (deliver s kind signer x)
      not_there gone = sym (last_check ∙ ap (λ b. cond b accepted (refused 22 3 s x)) gone)

      pub is_there : exists p w m ≡ true → accepted ≡ verdict p w (deliver s kind signer x)
      is_there there = sym (last_check ∙ ap (λ b. cond b accepted (refused 22 3 s x)) there)
