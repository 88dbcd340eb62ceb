-- The record of a run: refusals, honest seats, counts.
use Rattle.std.specs.Prelude.{ℕ, zero, suc, cond, List, [], ◌∷◌, ◌++◌, map}
use Rattle.model.specs.Setup.{Plan, honest}
use Rattle.model.specs.World.{World, Seat, Phase}
use Rattle.model.specs.World.Phase.{waiting, in_round, done}
use Rattle.lines.specs.Output.{text}
use Rattle.records.specs.Frames.{refusal_frame, counts_frame, wides}
use Rattle.records.specs.declared.refusal.Refusal.{Refusal}
use Rattle.records.specs.declared.totals.Counts.{Counts}

-- the byte that says a seat's phase
abbrev pub state : Phase → ℕ
state waiting = 0
state in_round = 1
state done = 2

-- e0 seat state round k_max and the blocks of the catalogue
abbrev pub seat_frame : ℕ → Seat → List ℕ
seat_frame s x = 224 ∷ s ∷ state x.phase ∷ x.round ∷ x.k_max ∷ wides x.catalogue

-- the honest seats below s, in order
abbrev pub seat_frames : Plan → World → ℕ → List (List ℕ)
seat_frames p w zero = []
seat_frames p w (suc s) = seat_frames p w s ++ cond (honest p s) (seat_frame s (w.seat s) ∷ []) []

-- the frames of a whole record, and its lines
abbrev pub record_frames : Plan → World → List Refusal → Counts → List (List ℕ)
record_frames p w fs c = map refusal_frame fs ++ seat_frames p w p.n ++ counts_frame c ∷ []

abbrev pub recorded : Plan → World → List Refusal → Counts → List ℕ
recorded p w fs c = text (record_frames p w fs c)

-- the line of one refusal alone
abbrev pub only : Refusal → List ℕ
only f = text (refusal_frame f ∷ [])
