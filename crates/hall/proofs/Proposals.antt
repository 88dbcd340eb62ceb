-- A proposal: what refuses it before the seat's rule decides, and that nothing does where its seat, parent and places are found.
use Rattle.std.proofs.Common.{◌≡◌, ℕ, true, false, List, Some, None, Ok, Err, Option, arith}
use Rattle.std.specs.Option.{ok_or}
use Rattle.model.specs.Setup.{Plan as Model}
use Rattle.model.specs.Setup.{honest}
use Rattle.model.specs.World.{World}
use Rattle.model.specs.Checks.{verdict, payload_ok}
use Rattle.model.specs.Checks.Call.{propose}
use Rattle.seats.specs.Desk.{verdict_past}
use Rattle.tree.specs.Payloads.{payload_list, list_if_ok}
use Rattle.tree.specs.declared.payload.Payload.{Payload}
use Rattle.hall.specs.declared.fault.HallFault.{HallFault}
use Rattle.hall.specs.declared.fault.HallFault.TheVariants.{OutOfRange}
use Rattle.hall.specs.Faults.{fault_verdict}
use Rattle.hall.specs.Answers.{seat_if, block_if}

-- the places are a payload, or not
pub payload_found : (xs ys : List ℕ) → Some ys ≡ list_if_ok xs → (ys ≡ xs) × (payload_ok xs ≡ true)
payload_found xs ys e = (grind arith, grind arith)

pub not_ok : (xs : List ℕ) → None ≡ list_if_ok xs → payload_ok xs ≡ false
not_ok xs e = grind arith

module _ (p : Model) (w : World) (s par : ℕ) (xs : List ℕ) (i : ℕ) (seat : Ok i ≡ seat_if p (honest p s) s) where
  pub no_parent : (f : HallFault) → Err f ≡ block_if p w par → fault_verdict s par f ≡ verdict p w (propose s par xs)
  no_parent f e = grind arith

  pub no_payload : (o : Option Payload) (f : HallFault) → payload_list o ≡ list_if_ok xs → Err f ≡ ok_or o OutOfRange → fault_verdict s par f ≡ verdict p w (propose s par xs)
  no_payload None f places e = grind arith
  no_payload (Some y) f places e = cc

  pub all_found : (b : ℕ) (ys : List ℕ) → Ok b ≡ block_if p w par → Some ys ≡ list_if_ok xs
      → (i ≡ s) × (b ≡ par) × (ys ≡ xs) × (verdict p w (propose s par xs) ≡ verdict_past 3 p w (propose s par xs))
  all_found b ys parent places = (grind arith, grind arith, grind arith, grind arith)
