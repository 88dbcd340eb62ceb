-- The calls of a run are a complete journal.
use Rattle.std.proofs.Common.{◌≡◌, ℕ, Option, Some, List, [], ◌∷◌, ◌++◌, sym, refl, subst, append_assoc, append-nil}
use Rattle.model.specs.Setup.{Plan}
use Rattle.model.specs.World.{World}
use Rattle.model.specs.Checks.{verdict}
use Rattle.model.specs.Effects.{after, opening as opening_state}
use Rattle.model.specs.Journal.{Line, Kept}
use Rattle.model.specs.Journal.Kept.{opened, called as calls_on}
use Rattle.frames.specs.Frames.{Frame}
use Rattle.frames.specs.Frames.Frame.{call}
use Rattle.records.specs.declared.refusal.Refusal.{Refusal}
use Rattle.records.specs.declared.totals.Counts.{Counts}
use Rattle.page.specs.Record.{recorded}
use Rattle.page.specs.Calls.{step_world, step_refusals, step_counts, called}
use Rattle.page.specs.Journals.{journal, world_after, refusals_after, counts_after, RunsKept}

module _ (p : Plan) where
  kept_on : (frames : List (Option Frame)) (js : List Line) (w : World) → Kept p js w → Kept p (js ++ journal p w frames) (world_after p w frames)
  kept_on [] js w k = subst (λ l. Kept p l w) (sym (append-nil js)) k
  kept_on (Some (call x) ∷ more) js w k =
      subst (λ l. Kept p l (world_after p (after p w x) more)) (append_assoc js (record { call = x; answer = verdict p w x } ∷ []) (journal p (after p w x) more))
      (kept_on more (js ++ record { call = x; answer = verdict p w x } ∷ []) (after p w x) (calls_on k x))
  kept_on (_ ∷ more) js w k = kept_on more js w k

  last_recorded : (frames : List (Option Frame)) (w : World) (k : ℕ) (fs : List Refusal) (c : Counts)
      → called p w k fs c frames ≡ recorded p (world_after p w frames) (refusals_after p w k fs frames) (counts_after p w c frames)
  last_recorded [] w k fs c = refl
  last_recorded (f ∷ more) w k fs c = last_recorded more (step_world p w f) _ (step_refusals p w k fs f) (step_counts p w c f)

pub runs_kept : RunsKept
runs_kept = record {
  complete = λ p frames. kept_on p frames [] (opening_state p) opened;
  recorded_last = λ p w k fs c frames. last_recorded p frames w k fs c;
}
