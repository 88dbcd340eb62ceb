-- Frames, told by the first byte and the length. Numbers stand high byte first.
use Rattle.std.specs.Prelude.{ℕ, ◌+◌, ◌*◌, Bool, cond, ◌&&◌, Option, Some, None, List, map, length, drop, ◌==◌, nat_le, nat_lt, slice_index, slice_index_or}
use Rattle.entries.specs.declared.card.Card.{Card}
use Rattle.entries.specs.declared.slip.Slip.{Slip}
use Rattle.lines.specs.Lines.{lines}
use Rattle.model.specs.Checks.{Call}
use Rattle.model.specs.Checks.Call.{tick, enter, propose, echo, finish, commit, deliver, forge, seal}
use Rattle.frames.specs.declared.frame.Setup.{Setup}

pub data Frame : Type 0 where
  -- the first line: corrupt has bit s for seat s
  opening : Setup → Frame
  card : Card → Frame
  slip : Slip → Frame
  -- the ranks of a round, seat by seat
  ranks : List ℕ → Frame
  call : Call → Frame

abbrev pub two : ℕ → ℕ → ℕ
two a b = a * 256 + b

abbrev pub four : ℕ → ℕ → ℕ → ℕ → ℕ
four a b c d = ((a * 256 + b) * 256 + c) * 256 + d

-- whether a frame begins with f and has n bytes
abbrev pub told : List ℕ → ℕ → ℕ → Bool
told bs f n = length bs == n && slice_index bs 0 == f

-- whether it begins with f and has low to high bytes
abbrev pub told_to : List ℕ → ℕ → ℕ → ℕ → Bool
told_to bs f low high = slice_index bs 0 == f && (nat_le low (length bs) && nat_le (length bs) high)

-- what a hall is set up with; no frame where the bytes are none of these, and so below
abbrev pub setup_frame : List ℕ → Option Frame
setup_frame bs =
    let at = λ (k : ℕ). slice_index_or bs k 0 in
    cond (told bs 1 10) (Some (opening (record { n = at 1; t = at 2; rounds = at 3; d = two (at 4) (at 5); e = two (at 6) (at 7); corrupt = two (at 8) (at 9) })))
    (cond (told bs 2 7) (Some (card (record { store = two (at 1) (at 2); find = four (at 3) (at 4) (at 5) (at 6) })))
    (cond (told bs 3 9) (Some (slip (record { one = four (at 1) (at 2) (at 3) (at 4); other = four (at 5) (at 6) (at 7) (at 8) })))
    (cond (told_to bs 4 1 14) (Some (ranks (drop 1 bs)))
    None)))

-- calls that move a seat's clock and round
abbrev pub round_frame : List ℕ → Option Frame
round_frame bs =
    let at = λ (k : ℕ). slice_index_or bs k 0 in
    cond (told bs 16 6) (Some (call (tick (at 1) (four (at 2) (at 3) (at 4) (at 5)))))
    (cond (told bs 17 2) (Some (call (enter (at 1))))
    None)

-- calls of a seat on blocks; a proposal has up to 8 places
abbrev pub block_frame : List ℕ → Option Frame
block_frame bs =
    let at = λ (k : ℕ). slice_index_or bs k 0 in
    cond (told_to bs 18 4 12) (Some (call (propose (at 1) (two (at 2) (at 3)) (drop 4 bs))))
    (cond (told bs 19 4) (Some (call (echo (at 1) (two (at 2) (at 3)))))
    (cond (told bs 20 4) (Some (call (finish (at 1) (two (at 2) (at 3)))))
    (cond (told bs 21 4) (Some (call (commit (at 1) (two (at 2) (at 3)))))
    None)))

-- calls on messages and for corrupt seats; a forgery has up to 8 places
abbrev pub message_frame : List ℕ → Option Frame
message_frame bs =
    let at = λ (k : ℕ). slice_index_or bs k 0 in
    cond (told bs 22 6) (Some (call (deliver (at 1) (at 2) (at 3) (two (at 4) (at 5)))))
    (cond (told_to bs 23 5 13) (Some (call (forge (at 1) (at 2) (two (at 3) (at 4)) (drop 5 bs))))
    (cond (told bs 24 5) (Some (call (seal (at 1) (at 2) (two (at 3) (at 4)))))
    None))

-- The frame of some bytes, by the family that its first byte is of. A family that is not taken has no frame: its line here, and its arm in decode, say so.
abbrev pub decoded : List ℕ → Option Frame
decoded bs =
    cond (nat_lt (slice_index bs 0) 16) (setup_frame bs)
    (cond (nat_lt (slice_index bs 0) 18) (round_frame bs)
    (cond (nat_lt (slice_index bs 0) 22) (block_frame bs)
    (message_frame bs)))

-- the frames of a text, one for each line: a line without a frame is malformed
abbrev pub frames : List ℕ → List (Option Frame)
frames text = map decoded (lines text)
