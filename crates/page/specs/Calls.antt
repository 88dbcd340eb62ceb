-- The call lines of a run.
use Rattle.std.specs.Prelude.{ℕ, ◌+◌, Option, Some, List, [], ◌∷◌}
use Rattle.model.specs.Setup.{Plan}
use Rattle.model.specs.World.{World}
use Rattle.model.specs.Checks.{Verdict, verdict}
use Rattle.model.specs.Checks.Verdict.{accepted, refused}
use Rattle.model.specs.Effects.{after}
use Rattle.frames.specs.Frames.{Frame}
use Rattle.frames.specs.Frames.Frame.{call}
use Rattle.records.specs.declared.refusal.Refusal.{Refusal}
use Rattle.records.specs.declared.totals.Counts.{Counts}
use Rattle.page.specs.Refusals.{refusal, also}
use Rattle.page.specs.declared.fault.PageFault.TheVariants.{Malformed}
use Rattle.page.specs.Record.{recorded}

abbrev pub no_counts : Counts
no_counts = record { calls = 0; accepted = 0; refused = 0 }

-- how a call's verdict counts, and what is listed of it
abbrev pub counted : Verdict → Counts → Counts
counted accepted c = record { calls = c.calls + 1; accepted = c.accepted + 1; refused = c.refused }
counted (refused _ _ _ _) c = record { calls = c.calls + 1; accepted = c.accepted; refused = c.refused + 1 }

abbrev pub listed : Verdict → ℕ → List Refusal → List Refusal
listed accepted k fs = fs
listed (refused number layer seat subject) k fs = also fs (record { line = k; number = number; layer = layer; seat = seat; subject = subject })

-- What line k does in the place of a call line: it is a call, or malformed, and then it counts for nothing.
module _ (p : Plan) (w : World) where
  abbrev pub step_world : Option Frame → World
  step_world (Some (call x)) = after p w x
  step_world _ = w

  abbrev pub step_refusals : ℕ → List Refusal → Option Frame → List Refusal
  step_refusals k fs (Some (call x)) = listed (verdict p w x) k fs
  step_refusals k fs _ = also fs (refusal k Malformed)

  abbrev pub step_counts : Counts → Option Frame → Counts
  step_counts c (Some (call x)) = counted (verdict p w x) c
  step_counts c _ = c

-- the record of a run from line k on
module _ (p : Plan) where
  abbrev pub called : World → ℕ → List Refusal → Counts → List (Option Frame) → List ℕ
  called w k fs c [] = recorded p w fs c
  called w k fs c (f ∷ more) = called (step_world p w f) (k + 1) (step_refusals p w k fs f) (step_counts p w c f) more
