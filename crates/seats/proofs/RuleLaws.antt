-- What a rule owes, where it accepts and where it refuses.
use Rattle.std.proofs.Common.{◌≡◌, ℕ, Bool, true, false, List, [], sym, ap, ◌∙◌}
use Rattle.std.proofs.lemmas.Bool.{cond-true, cond-false}
use Rattle.model.specs.Setup.{Plan as Model}
use Rattle.model.specs.World.{World}
use Rattle.model.specs.World.{Seat as ModelSeat}
use Rattle.model.specs.World.{Message as Said}
use Rattle.model.specs.Checks.{Call, caller}
use Rattle.model.specs.Checks.Verdict.{accepted, refused}
use Rattle.model.specs.Effects.{is_accepted, seals, broadcast, seat_after}
use Rattle.seats.specs.Desk.{verdict_past, accepts, sealed_with, Rule}

module _ (k : ℕ) (p : Model) (w : World) (c : Call) where
  pub rule_accepts : accepted ≡ verdict_past k p w c → {out : List Said} {after : ModelSeat} {held : ℕ → ℕ → ℕ → Bool}
      → out ≡ broadcast p w c → after ≡ seat_after p w c → held ≡ sealed_with (seals p w c) w.sealed
      → Rule k p w c accepted out after held
  rule_accepts said sends moves sealed =
      let go : accepts k p w c ≡ true = sym (ap is_accepted said) in
      record {
        judged = said;
        sends = sends ∙ sym (cond-true (accepts k p w c) (broadcast p w c) [] go);
        moves = moves ∙ sym (cond-true (accepts k p w c) (seat_after p w c) (w.seat (caller c)) go);
        seals_given = sealed ∙ ap (λ (l : List Said). sealed_with l w.sealed) (sym (cond-true (accepts k p w c) (seals p w c) [] go));
      }

  pub rule_refuses : (n l s x : ℕ) → refused n l s x ≡ verdict_past k p w c → Rule k p w c (refused n l s x) [] (w.seat (caller c)) w.sealed
  rule_refuses n l s x said =
      let stop : accepts k p w c ≡ false = sym (ap is_accepted said) in
      record {
        judged = said;
        sends = sym (cond-false (accepts k p w c) (broadcast p w c) [] stop);
        moves = sym (cond-false (accepts k p w c) (seat_after p w c) (w.seat (caller c)) stop);
        seals_given = ap (λ (m : List Said). sealed_with m w.sealed) (sym (cond-false (accepts k p w c) (seals p w c) [] stop));
      }
