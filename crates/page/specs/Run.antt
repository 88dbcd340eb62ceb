-- One run: from the bytes of a submission to the bytes that are written.
use Rattle.std.specs.Prelude.{ℕ, zero, suc, ◌+◌, cond, List, [], ◌∷◌, ◌++◌, length, Ok, Err, Result, Option, Some, ◌==◌, nat_lt}
use Rattle.model.specs.Setup.{Plan as Model}
use Rattle.model.specs.Effects.{opening as opening_state}
use Rattle.draws.specs.Ranks.{table_rank, some_misplaced}
use Rattle.draws.specs.declared.fault.DrawFault.TheVariants.{NotOnce}
use Rattle.plans.specs.Setup.{with_entries}
use Rattle.plans.specs.declared.fault.PlanFault.TheVariants.{Draw, ManyEntries}
use Rattle.lines.specs.Output.{over}
use Rattle.frames.specs.Frames.{Frame, frames}
use Rattle.frames.specs.Frames.Frame.{card, slip, call}
use Rattle.records.specs.declared.refusal.Refusal.{Refusal}
use Rattle.page.specs.Refusals.{refusal, also}
use Rattle.page.specs.First.{judged}
use Rattle.page.specs.Ranks.{row, with_table}
use Rattle.page.specs.Alike.{entries_alike}
use Rattle.page.specs.Record.{only}
use Rattle.page.specs.Calls.{called, no_counts}
use Rattle.page.specs.declared.fault.PageFault.{PageFault}
use Rattle.page.specs.declared.fault.PageFault.TheVariants.{Malformed, Plan}
use Rattle.page.specs.declared.types.Sort.{Sort}
use Rattle.page.specs.declared.types.Sort.TheVariants.{Cards, Slips}
use Rattle.page.specs.declared.types.PageEntry.{PageEntry}
use Rattle.page.specs.declared.types.PageEntry.TheVariants.{Card, Slip}
use Rattle.page.specs.declared.types.Place.{Place}
use Rattle.page.specs.declared.types.Place.TheVariants.{Entry, Closes, Misplaced}

-- What a line is in the place of an entry line: an entry of the hall's own sort, a call, which closes the table, or neither.
abbrev pub placed : Sort → Option Frame → Place
placed Cards (Some (card x)) = Entry (Card x)
placed Slips (Some (slip x)) = Entry (Slip x)
placed _ (Some (call _)) = Closes
placed _ _ = Misplaced

-- an entry is taken into the table; past the 128th it is refused
abbrev pub with_entry : List PageEntry → PageEntry → List PageEntry
with_entry entries x = cond (nat_lt (length entries) 128) (entries ++ x ∷ []) entries

abbrev pub entry_refusals : List PageEntry → ℕ → List Refusal → List Refusal
entry_refusals entries k fs = cond (nat_lt (length entries) 128) fs (also fs (refusal k (Plan ManyEntries)))

-- the hall opens with the entries, and line k is a call
abbrev pub opened : Model → List PageEntry → ℕ → List Refusal → List (Option Frame) → List ℕ
opened p entries k fs more = called (with_entries entries_alike entries p) (opening_state (with_entries entries_alike entries p)) k fs no_counts more

-- the entry table, from line k on; the first call closes it
module _ (sort : Sort) (p : Model) where
  abbrev pub collected : List PageEntry → ℕ → List Refusal → List (Option Frame) → List ℕ
  collected entries k fs [] = opened p entries k fs []
  collected entries k fs (f ∷ more) =
      elim (placed sort f) [
        | Entry x ↦ collected (with_entry entries x) (k + 1) (entry_refusals entries k fs) more
        | Closes ↦ opened p entries k fs (f ∷ more)
        | Misplaced ↦ collected entries (k + 1) (also fs (refusal k Malformed)) more
      ]

-- a run that its first lines end has one refusal, and nothing else
abbrev pub ended_at : ℕ → PageFault → List ℕ
ended_at k f = only (refusal k f)

-- The rank lines that are left to read, after those of some rounds; that of round 1 is line 2. A line that has not n ranks, or is missing, is
-- malformed; it is refused if, with it, the ranks of a round are not each once.
module _ (p : Model) where
  abbrev pub rows : ℕ → ℕ → List ℕ → List (Option Frame) → List ℕ
  rows zero done table more = collected Slips (with_table table p) [] (done + 2) [] more
  rows (suc left) done table [] = ended_at (done + 2) Malformed
  rows (suc left) done table (f ∷ more) =
      cond (length (row f) == p.n)
      (cond (some_misplaced p.n (done + 1) (table_rank p.n (done + 1) (table ++ row f)))
      (ended_at (done + 2) (Plan (Draw NotOnce)))
      (rows left (done + 1) (table ++ row f) more))
      (ended_at (done + 2) Malformed)

-- after the first line: the slip hall has a rank line for each round
abbrev pub begun : Sort → Result Model PageFault → List (Option Frame) → List ℕ
begun Cards (Ok p) more = collected Cards p [] 2 [] more
begun Slips (Ok p) more = rows p p.rounds 0 [] more
begun sort (Err f) more = ended_at 1 f

abbrev pub run : Sort → List (Option Frame) → List ℕ
run sort [] = ended_at 1 Malformed
run sort (f ∷ more) = begun sort (judged f) more

-- the record of a submission
abbrev pub page : Sort → List ℕ → List ℕ
page sort s = run sort (frames s)

-- The answer: the length written, or 1,000,000 and the number of a refusal, the submission's length judged before the output buffer's.
abbrev pub answer : Sort → List ℕ → ℕ → ℕ
answer sort s room = cond (nat_lt 65535 (length s)) 1000024 (cond (nat_lt room 2048) 1000004 (length (page sort s)))

-- The output buffer afterwards: these two refusals write nothing, and bytes past the length stay.
abbrev pub buffer_after : Sort → List ℕ → List ℕ → List ℕ
buffer_after sort s xs = cond (nat_lt 65535 (length s)) xs (cond (nat_lt (length xs) 2048) xs (over (page sort s) xs))
