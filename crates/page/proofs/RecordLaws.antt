-- Lemmas on the record: its seats one by one, and how long it is.
use Rattle.std.proofs.Common.{◌≡◌, ℕ, ◌+◌, ◌*◌, ◌<◌, ◌≤◌, Bool, true, false, cond, not, ◌&&◌, ltb, List, [], ◌∷◌, ◌++◌, map, length, sym, refl, ap, ◌∙◌, subst, append-nil, add-one, arith, length-append, length-take, take}
use Rattle.std.proofs.lemmas.Bool.{le-leb, lt-ltb}
use Rattle.model.specs.Setup.{Plan, honest}
use Rattle.model.specs.World.{World, Seat}
use Rattle.lines.specs.Output.{line, text}
use Rattle.lines.specs.Writing.{buffer_of, place_of, Puts, Fills}
use Rattle.lines.specs.declared.output.LineWriter.{LineWriter}
use Rattle.lines.proofs.OutputLaws.{length_line, text_append, text_push}
use Rattle.lines.proofs.WriterLaws.{puts_more, puts_fill}
use Rattle.records.specs.Frames.{wides, report_frame, report_frames, refusal_frame, counts_frame}
use Rattle.records.specs.declared.seat.SeatReport.{SeatReport}
use Rattle.records.specs.declared.refusal.Refusal.{Refusal}
use Rattle.records.specs.declared.totals.Counts.{Counts}
use Rattle.records.proofs.FrameLaws.{length_wides, length_refusals}
use Rattle.page.specs.Record.{state, seat_frame, seat_frames, record_frames, recorded}
use Rattle.page.specs.Shape.{Reported}

-- the frame of a report is the frame of the seat that it reports
pub reported_frame : (s : ℕ) (r : SeatReport) (x : Seat) → Reported r x → report_frame s r ≡ seat_frame s x
reported_frame s r x h =
    ap (λ u. 224 ∷ s ∷ u ∷ r.round ∷ r.k_max ∷ wides (take r.count r.catalogue)) h.state_is
    ∙ ap (λ u. 224 ∷ s ∷ state x.phase ∷ u ∷ r.k_max ∷ wides (take r.count r.catalogue)) h.round_is
    ∙ ap (λ u. 224 ∷ s ∷ state x.phase ∷ x.round ∷ u ∷ wides (take r.count r.catalogue)) h.k_max_is
    ∙ ap (λ u. 224 ∷ s ∷ state x.phase ∷ x.round ∷ x.k_max ∷ wides u) h.blocks_are

-- and the only one that it puts
pub reported_frames : (s : ℕ) (r : SeatReport) (x : Seat) → Reported r x → report_frames s r ≡ seat_frame s x ∷ []
reported_frames s r x h = ap (λ b. cond b (report_frame s r ∷ []) []) (le-leb r.count 8 h.few) ∙ ap (λ l. l ∷ []) (reported_frame s r x h)

-- at most 43 characters to a seat
pub length_seat : (s : ℕ) (r : SeatReport) (x : Seat) → Reported r x → length (line (seat_frame s x)) ≤ 43
length_seat s r x h = omega (arith, length_line (seat_frame s x), length_wides x.catalogue, ap length h.blocks_are, length-take r.count r.catalogue, h.few)

-- whether a seat has a line
abbrev pub has_line : Plan → ℕ → Bool
has_line p s = ltb s p.n && honest p s

-- one seat more: a corrupt one has no line
module _ (p : Plan) (w : World) (s : ℕ) (low : s < p.n) where
  corrupt_is : (b : Bool) → has_line p s ≡ not b → p.corrupt s ≡ b
  corrupt_is b e = by (p.corrupt s) b (sym (ap (λ c. c && honest p s) (lt-ltb s p.n low)) ∙ e)
    where
      by : (c b : Bool) → not c ≡ not b → c ≡ b
      by true true h = refl
      by true false h = sym h
      by false true h = sym h
      by false false h = refl

  seats_corrupt_is : p.corrupt s ≡ true → seat_frames p w (s + 1) ≡ seat_frames p w s
  seats_corrupt_is e =
      ap (seat_frames p w) (add-one s)
      ∙ ap (λ b. seat_frames p w s ++ cond (not b) (seat_frame s (w.seat s) ∷ []) []) e ∙ append-nil (seat_frames p w s)

  seats_honest_is : p.corrupt s ≡ false → seat_frames p w (s + 1) ≡ seat_frames p w s ++ seat_frame s (w.seat s) ∷ []
  seats_honest_is e =
      ap (seat_frames p w) (add-one s)
      ∙ ap (λ b. seat_frames p w s ++ cond (not b) (seat_frame s (w.seat s) ∷ []) []) e

  pub seats_corrupt : has_line p s ≡ false → seat_frames p w (s + 1) ≡ seat_frames p w s
  seats_corrupt e = seats_corrupt_is (corrupt_is true e)

  pub seats_honest : has_line p s ≡ true → seat_frames p w (s + 1) ≡ seat_frames p w s ++ seat_frame s (w.seat s) ∷ []
  seats_honest e = seats_honest_is (corrupt_is false e)

-- what a writer puts up to one seat more: z is the writer after seat s
module _ (p : Plan) (w : World) (s : ℕ) (low : s < p.n) (x y z : LineWriter) (inv : Puts x y (seat_frames p w s)) where
  pub puts_corrupt : has_line p s ≡ false → z ≡ y → Puts x z (seat_frames p w (s + 1))
  puts_corrupt e is =
      let to : LineWriter → Type 0 = λ v. Puts x v (seat_frames p w s) in
      let all : List (List ℕ) → Type 0 = Puts x z in
      subst all (sym (seats_corrupt p w s low e)) (subst to (sym is) inv)

  pub puts_honest : has_line p s ≡ true → (r : SeatReport) → Reported r (w.seat s) → Puts y z (report_frames s r) → Puts x z (seat_frames p w (s + 1))
  puts_honest e r h q =
      let on : List (List ℕ) → Type 0 = Puts y z in
      let all : List (List ℕ) → Type 0 = Puts x z in
      subst all (sym (seats_honest p w s low e)) (puts_more x y z (seat_frames p w s) (seat_frame s (w.seat s) ∷ []) inv (subst on (reported_frames s r (w.seat s) h) q))

  -- and how long those lines are
  pub long_corrupt : has_line p s ≡ false → length (text (seat_frames p w s)) ≤ 43 * s → length (text (seat_frames p w (s + 1))) ≤ 43 * (s + 1)
  long_corrupt e h = omega (arith, ap (λ ls. length (text ls)) (seats_corrupt p w s low e))

  pub long_honest : has_line p s ≡ true → (r : SeatReport) → Reported r (w.seat s) → length (text (seat_frames p w s)) ≤ 43 * s → length (text (seat_frames p w (s + 1))) ≤ 43 * (s + 1)
  long_honest e r h few =
      let bs = seat_frame s (w.seat s) in
      omega (arith, ap (λ ls. length (text ls)) (seats_honest p w s low e), ap length (text_push (seat_frames p w s) bs), length-append (text (seat_frames p w s)) (line bs), length_seat s r (w.seat s) h)

-- a record is no longer than 64 refusals, 13 seats and the counts
pub length_record : (fs : List Refusal) (two : List (List ℕ)) (c : Counts) → length fs ≤ 64 → length (text two) ≤ 43 * 13 → length (text (map refusal_frame fs ++ two ++ counts_frame c ∷ [])) ≤ 2048
length_record fs two c h g =
    let one = map refusal_frame fs in
    let last : length (line (counts_frame c)) ≡ 15 = refl in
    let e = ap length (text_push (one ++ two) (counts_frame c)) in
    let f = length-append (text (one ++ two)) (line (counts_frame c)) in
    let k = ap length (text_append one two) in
    omega (arith, e, f, k, length-append (text one) (text two), length_refusals fs)

-- a record is put into a buffer of 2048 characters at least, from its start
pub record_put : (p : Plan) (w : World) (fs : List Refusal) (n : Counts) (x a b z : LineWriter) (xs : List ℕ) → buffer_of x ≡ xs → place_of x ≡ 0 → 2048 ≤ length xs → length fs ≤ 64
    → Puts x a (map refusal_frame fs) → Puts a b (seat_frames p w p.n) → length (text (seat_frames p w p.n)) ≤ 43 * 13 → Puts b z (counts_frame n ∷ [])
    → Fills xs (recorded p w fs n) (buffer_of z) (place_of z)
record_put p w fs n x a b z xs is start room few one two low three =
    let seats = seat_frames p w p.n in
    let short : length (recorded p w fs n) ≤ 2048 = length_record fs seats n few low in
    puts_fill x z xs (record_frames p w fs n) is start
    (puts_more x b z (map refusal_frame fs ++ seats) (counts_frame n ∷ []) (puts_more x a b (map refusal_frame fs) seats one two) three) (omega arith)
