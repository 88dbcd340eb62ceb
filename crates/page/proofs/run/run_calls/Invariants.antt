-- The invariant: the lines that are left give what all give; and no count overflows, since no more calls than lines were read.
use Rattle.std.proofs.Common.{◌≡◌, ◌+◌, ◌≤◌, length}
use Rattle.plans.specs.Planned.{model}
use Rattle.hall.specs.Worlds.{world}
use Rattle.basics.specs.Elements.{elements}
use Rattle.lines.specs.Reading.{left, line_now, lines_read, IsLast}
use Rattle.page.specs.Calls.{called, no_counts}
use Rattle.page.specs.Reading.{coming}
use Rattle.page.proofs.run.run_calls.Given as goal

abbrev pub invariant-loop-at_hand : goal.invariant-loop-at_hand
invariant-loop-at_hand g l = record {
  all : called (model l.initial.hall.plan) (world g.B.SealView.held l.hall) (line_now l.reader) (elements l.refusals) l.counts (coming l.at_hand l.reader)
      ≡ called (model l.initial.hall.plan) (world g.B.SealView.held l.initial.hall) (line_now l.initial.reader) (elements l.initial.refusals) no_counts (coming l.initial.at_hand l.initial.reader);
  plan : model l.hall.plan ≡ model l.initial.hall.plan;
  last : IsLast l.at_hand l.reader;
  few : l.counts.calls + lines_read l.at_hand ≤ line_now l.reader;
  sum : l.counts.accepted + l.counts.refused ≡ l.counts.calls;
}

abbrev pub decreases-loop-at_hand : goal.decreases-loop-at_hand
decreases-loop-at_hand g l = lines_read l.at_hand + length (left l.reader)
