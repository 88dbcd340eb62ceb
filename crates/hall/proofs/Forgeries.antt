-- A forgery: what refuses it before the hall's own rule decides, and that nothing does where its seat, round, parent and places are found.
use Rattle.std.proofs.Common.{◌≡◌, ℕ, true, not, ◌&&◌, leb, List, Some, None, Ok, Err, Option, arith}
use Rattle.std.specs.Option.{ok_or}
use Rattle.model.specs.Setup.{Plan as Model}
use Rattle.model.specs.Setup.{honest}
use Rattle.model.specs.World.{World}
use Rattle.model.specs.Checks.{verdict}
use Rattle.model.specs.Checks.Call.{forge}
use Rattle.seats.specs.Desk.{verdict_past}
use Rattle.tree.specs.Payloads.{payload_list, list_if_ok}
use Rattle.tree.specs.declared.payload.Payload.{Payload}
use Rattle.hall.specs.declared.fault.HallFault.{HallFault}
use Rattle.hall.specs.declared.fault.HallFault.TheVariants.{OutOfRange}
use Rattle.hall.specs.Faults.{fault_verdict}
use Rattle.hall.specs.Answers.{seat_if, block_if, round_if}

-- the plan has the round
pub round_found : (p : Model) (k i : ℕ) → Ok i ≡ round_if p k → (i ≡ k) × ((leb 1 k && leb k p.rounds) ≡ true)
round_found p k i e = (grind arith, grind arith)

module _ (p : Model) (w : World) (s k par : ℕ) (xs : List ℕ) (i : ℕ) (seat : Ok i ≡ seat_if p (not (honest p s)) s) where
  pub no_round : (f : HallFault) → Err f ≡ round_if p k → fault_verdict s par f ≡ verdict p w (forge s k par xs)
  no_round f e = grind arith

  pub no_parent : (f : HallFault) → Err f ≡ block_if p w par → fault_verdict s par f ≡ verdict p w (forge s k par xs)
  no_parent f e = grind arith

  pub no_payload : (o : Option Payload) (f : HallFault) → payload_list o ≡ list_if_ok xs → Err f ≡ ok_or o OutOfRange → fault_verdict s par f ≡ verdict p w (forge s k par xs)
  no_payload None f places e = grind arith
  no_payload (Some y) f places e = cc

  pub all_found : (j b : ℕ) (ys : List ℕ) → Ok j ≡ round_if p k → Ok b ≡ block_if p w par → Some ys ≡ list_if_ok xs
      → (i ≡ s) × (j ≡ k) × (b ≡ par) × (ys ≡ xs) × (verdict p w (forge s k par xs) ≡ verdict_past 3 p w (forge s k par xs))
  all_found j b ys round parent places = (grind arith, grind arith, grind arith, grind arith, grind arith)
