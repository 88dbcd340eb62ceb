-- From what the hall says of its opening and of the call to what the user is told.
use Rattle.std.proofs.Common.{◌≡◌, ℕ, Bool, List, [], Result}
use Rattle.model.specs.Setup.{Plan as Model}
use Rattle.model.specs.Checks.Call.{enter}
use Rattle.model.specs.Effects.{after, opening}
use Rattle.model.specs.Journal.{Kept}
use Rattle.hall.specs.Answers.{Opened, Called}
use Rattle.hall.specs.Faults.{answer}
use Rattle.hall.specs.Worlds.{world}
use Rattle.hall.specs.declared.hall.Hall.{Hall}
use Rattle.hall.specs.declared.fault.HallFault.{HallFault}
use Rattle.plans.specs.Planned.{model}
use Rattle.plans.specs.declared.plan.Plan.{Plan}
use Rattle.client.specs.Labelled.{labelled}
use Rattle.client.specs.Tried.{FirstEntry}
use Rattle.client.specs.declared.label.Label.{Label}

module _ {B : Type 0} (held : B → ℕ → ℕ → ℕ → Bool) (x : Plan) (h h' : Hall B) (v : Result (Unit {0}) HallFault) where
  pub entered_first : (n rounds : ℕ) (xs : List Label) → model x ≡ labelled n rounds xs → Opened held x h → Called held h h' (enter 0) (answer 0 0 v) → FirstEntry n rounds xs v
  entered_first n rounds xs made opened called =
      let q : Model = labelled n rounds xs in
      let plan_is : model h.plan ≡ q = cc in
      let stays : model h'.plan ≡ q = cc in
      let world_is : world held h ≡ opening q = cc in
      let left : world held h' ≡ after q (opening q) (enter 0) = cc in
      let begun : Kept (model h.plan) [] (world held h) = rw (plan_is, ← made) opened.journal in
      record {
        judged = cc;
        journal = rw (stays, left) at (called.journal [] begun);
        promises = rw stays at called.promises;
      }
