-- The invariant: the frame of the blocks so far.
use Rattle.std.proofs.Common.{◌≡◌, ◌∷◌, take}
use Rattle.basics.specs.Elements.{elements}
use Rattle.records.specs.Frames.{wides}
use Rattle.records.proofs.seat.seat_frame.Given as goal

abbrev pub invariant-loop-block : goal.invariant-loop-block
invariant-loop-block l =
    elements l.frame ≡ 224 ∷ l.seat ∷ l.fn.report.state ∷ l.fn.report.round ∷ l.fn.report.k_max ∷ wides (take l.block-index l.block-items)
