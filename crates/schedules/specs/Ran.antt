-- What a list of calls does to a hall.
use Rattle.std.specs.Prelude.{◌≡◌, Bool, List, [], ◌∷◌, ◌++◌, ℕ}
use Rattle.model.specs.Setup.{Plan as Model}
use Rattle.model.specs.World.{World}
use Rattle.model.specs.Checks.{verdict}
use Rattle.model.specs.Checks.{Call as Asked}
use Rattle.model.specs.Effects.{effect}
use Rattle.model.specs.Journal.{Line, Kept}
use Rattle.model.specs.Promises.{Promises}
use Rattle.model.specs.Runs.{run_by, lines_by}
use Rattle.calls.specs.Asked.{asked}
use Rattle.calls.specs.declared.Call.{Call}
use Rattle.plans.specs.Planned.{model}
use Rattle.hall.specs.Worlds.{world}
use Rattle.hall.specs.declared.hall.Hall.{Hall}

-- the calls of the rules that the calls of the code stand for
abbrev pub all_asked : List Call → List Asked
all_asked [] = []
all_asked (c ∷ cs) = asked c ∷ all_asked cs

-- the state after calls made one after another
abbrev pub state_after : Model → World → List Asked → World
state_after p w cs = run_by (verdict p) (effect p) w cs

-- their lines in the journal, each with its answer
abbrev pub lines_of : Model → World → List Asked → List Line
lines_of p w cs = lines_by (verdict p) (effect p) w cs

module _ {B : Type 0} (held : B → ℕ → ℕ → ℕ → Bool) where
  -- The calls took the hall from h to h': the state after is that of the rules; the journal of every call since the opening goes on by a line for each
  -- of them, accepted or refused; and the plan, which stays, keeps every promise.
  pub record Ran (h h' : Hall B) (cs : List Asked) : Type 0 where
    pub plan_stays : h'.plan ≡ h.plan
    pub left : world held h' ≡ state_after (model h.plan) (world held h) cs
    pub journal : (js : List Line) → Kept (model h.plan) js (world held h) → Kept (model h'.plan) (js ++ lines_of (model h.plan) (world held h) cs) (world held h')
    pub promises : Promises (model h'.plan)
