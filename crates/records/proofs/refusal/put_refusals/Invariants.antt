-- The invariant: the refusals so far are put.
use Rattle.std.proofs.Common.{map, take}
use Rattle.lines.specs.Writing.{Puts}
use Rattle.records.specs.Frames.{refusal_frame}
use Rattle.records.proofs.refusal.put_refusals.Given as goal

abbrev pub invariant-loop-refusal : goal.invariant-loop-refusal
invariant-loop-refusal l = Puts l.initial.writer l.writer (map refusal_frame (take l.refusal-index l.refusals))
