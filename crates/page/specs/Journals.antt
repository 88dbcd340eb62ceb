-- The calls of a run as a journal.
use Rattle.std.specs.Prelude.{◌≡◌, ℕ, ◌+◌, Option, Some, List, [], ◌∷◌, ◌++◌}
use Rattle.model.specs.Setup.{Plan}
use Rattle.model.specs.World.{World}
use Rattle.model.specs.Checks.{verdict}
use Rattle.model.specs.Effects.{opening as opening_state}
use Rattle.model.specs.Journal.{Line, Kept}
use Rattle.frames.specs.Frames.{Frame}
use Rattle.frames.specs.Frames.Frame.{call}
use Rattle.records.specs.declared.refusal.Refusal.{Refusal}
use Rattle.records.specs.declared.totals.Counts.{Counts}
use Rattle.page.specs.Record.{recorded}
use Rattle.page.specs.Calls.{step_world, step_refusals, step_counts, called}

module _ (p : Plan) where
  -- what a line adds to the journal: a call with its verdict, and nothing where it is no call
  abbrev pub journal_line : World → Option Frame → List Line
  journal_line w (Some (call x)) = record { call = x; answer = verdict p w x } ∷ []
  journal_line w _ = []

  -- the journal of the lines from a state on; the state after them, the refusals listed and the counts
  abbrev pub journal : World → List (Option Frame) → List Line
  journal w [] = []
  journal w (f ∷ more) = journal_line w f ++ journal (step_world p w f) more

  abbrev pub world_after : World → List (Option Frame) → World
  world_after w [] = w
  world_after w (f ∷ more) = world_after (step_world p w f) more

  abbrev pub refusals_after : World → ℕ → List Refusal → List (Option Frame) → List Refusal
  refusals_after w k fs [] = fs
  refusals_after w k fs (f ∷ more) = refusals_after (step_world p w f) (k + 1) (step_refusals p w k fs f) more

  abbrev pub counts_after : World → Counts → List (Option Frame) → Counts
  counts_after w c [] = c
  counts_after w c (f ∷ more) = counts_after (step_world p w f) (step_counts p w c f) more

-- Whatever lines follow the opening: their calls, with their verdicts, are a complete journal of the hall, and what is recorded is the hall's
-- state under its last line.
pub record RunsKept : Type 0 where
  pub complete : (p : Plan) (frames : List (Option Frame)) → Kept p (journal p (opening_state p) frames) (world_after p (opening_state p) frames)
  pub recorded_last : (p : Plan) (w : World) (k : ℕ) (fs : List Refusal) (c : Counts) (frames : List (Option Frame))
      → called p w k fs c frames ≡ recorded p (world_after p w frames) (refusals_after p w k fs frames) (counts_after p w c frames)
