-- What the hall gives its user.
use Rattle.std.specs.Prelude.{◌≡◌, ℕ, List, [], ◌∷◌, Result}
use Rattle.model.specs.Checks.{verdict}
use Rattle.model.specs.Checks.Call.{enter}
use Rattle.model.specs.Effects.{after, opening}
use Rattle.model.specs.Journal.{Kept}
use Rattle.model.specs.Promises.{Promises}
use Rattle.hall.specs.Faults.{answer}
use Rattle.hall.specs.declared.fault.HallFault.{HallFault}
use Rattle.client.specs.Labelled.{labelled}
use Rattle.client.specs.declared.label.Label.{Label}

-- Seat 0 has asked to enter in a hall that was just opened: the answer is the rules', the journal has this line, and every promise holds of the
-- plan with the user's own ranks and likeness.
pub record FirstEntry (n rounds : ℕ) (xs : List Label) (v : Result (Unit {0}) HallFault) : Type 0 where
  pub judged : answer 0 0 v ≡ verdict (labelled n rounds xs) (opening (labelled n rounds xs)) (enter 0)
  pub journal : Kept (labelled n rounds xs) (record { call = enter 0; answer = answer 0 0 v } ∷ []) (after (labelled n rounds xs) (opening (labelled n rounds xs)) (enter 0))
  pub promises : Promises (labelled n rounds xs)
