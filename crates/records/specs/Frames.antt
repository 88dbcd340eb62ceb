-- The frames that a record is made of.
use Rattle.std.specs.Prelude.{ℕ, cond, List, [], ◌∷◌, take, nat_le}
use Rattle.lines.specs.Output.{wide}
use Rattle.records.specs.declared.refusal.Refusal.{Refusal}
use Rattle.records.specs.declared.totals.Counts.{Counts}
use Rattle.records.specs.declared.seat.SeatReport.{SeatReport}

-- f0 line(2) number layer seat subject(2)
abbrev pub refusal_frame : Refusal → List ℕ
refusal_frame f = 240 ∷ wide f.line (f.number ∷ f.layer ∷ f.seat ∷ wide f.subject [])

-- ef calls(2) accepted(2) refused(2)
abbrev pub counts_frame : Counts → List ℕ
counts_frame c = 239 ∷ wide c.calls (wide c.accepted (wide c.refused []))

-- numbers of two bytes, one after the other
abbrev pub wides : List ℕ → List ℕ
wides [] = []
wides (b ∷ bs) = wide b (wides bs)

-- e0 seat state round k_max and blocks(2 each)
abbrev pub report_frame : ℕ → SeatReport → List ℕ
report_frame seat r = 224 ∷ seat ∷ r.state ∷ r.round ∷ r.k_max ∷ wides (take r.count r.catalogue)

-- the frame of a report of at most eight blocks; none of any other
abbrev pub report_frames : ℕ → SeatReport → List (List ℕ)
report_frames seat r = cond (nat_le r.count 8) (report_frame seat r ∷ []) []
