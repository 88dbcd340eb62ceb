-- The invariant: the honest seats so far are put.
use Rattle.std.proofs.Common.{◌*◌, ◌≤◌, length}
use Rattle.plans.specs.Planned.{model}
use Rattle.hall.specs.Worlds.{world}
use Rattle.lines.specs.Output.{text}
use Rattle.lines.specs.Writing.{Puts}
use Rattle.page.specs.Record.{seat_frames}
use Rattle.page.proofs.writing.put_seats.Given as goal

abbrev pub invariant-loop-seat : goal.invariant-loop-seat
invariant-loop-seat g l = record {
  put : Puts l.initial.writer l.writer (seat_frames (model l.hall.plan) (world g.B.SealView.held l.hall) l.seat);
  few : length (text (seat_frames (model l.hall.plan) (world g.B.SealView.held l.hall) l.seat)) ≤ 43 * l.seat;
}
