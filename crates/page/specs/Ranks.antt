-- The rank lines of the slip hall, and the plan with their ranks.
use Rattle.std.specs.Prelude.{ℕ, Option, Some, List, [], Ok, Err, Result}
use Rattle.model.specs.Setup.{Plan as Model}
use Rattle.draws.specs.Made.{Meaning, table_made}
use Rattle.draws.specs.Ranks.{table_rank}
use Rattle.draws.specs.declared.fault.DrawFault.{DrawFault}
use Rattle.plans.specs.Setup.{drawn_rank}
use Rattle.plans.specs.declared.fault.PlanFault.{PlanFault}
use Rattle.plans.specs.declared.fault.PlanFault.TheVariants.{Draw}
use Rattle.frames.specs.Frames.{Frame}
use Rattle.frames.specs.Frames.Frame.{ranks}
use Rattle.frames.specs.declared.frame.Setup.{Setup}
use Rattle.records.specs.declared.refusal.Refusal.{Refusal}
use Rattle.page.specs.Refusals.{refusal}
use Rattle.page.specs.First.{plan_with}
use Rattle.page.specs.declared.fault.PageFault.TheVariants.{Plan}

-- the ranks that a line says: none where it is no rank line
abbrev pub row : Option Frame → List ℕ
row (Some (ranks rs)) = rs
row _ = []

-- a plan, but with these ranks
abbrev pub with_ranks : (ℕ → ℕ → ℕ) → Model → Model
with_ranks rank p = record {
  n = p.n;
  t = p.t;
  rounds = p.rounds;
  d = p.d;
  e = p.e;
  rank = drawn_rank p.n p.rounds rank;
  corrupt = p.corrupt;
  entries = p.entries;
  like = p.like;
}

-- a plan, but with the ranks of a table, n to a round
abbrev pub with_table : List ℕ → Model → Model
with_table table p = with_ranks (table_rank p.n p.rounds table) p

-- what a table of n ranks to each of R rounds says
abbrev pub meant : ℕ → ℕ → List ℕ → Meaning
meant n R table = record { seats = n; rounds = R; rank = table_rank n R table }

-- the plan of a table draw with what the first line says
abbrev pub by_draw : Result Meaning DrawFault → Setup → Result Model PlanFault
by_draw (Ok m) u = plan_with m.seats m.rounds m.rank u
by_draw (Err f) u = Err (Draw f)

abbrev pub table_plan : Setup → List ℕ → Result Model PlanFault
table_plan u table = by_draw (table_made u.n u.rounds table) u

-- what line k, which brings the last ranks of a table, is answered: it is refused where they are no draw
abbrev pub ranks_judged : ℕ → Result Meaning DrawFault → Result (Unit {0}) Refusal
ranks_judged k (Ok _) = Ok tt
ranks_judged k (Err f) = Err (refusal k (Plan (Draw f)))
