use Rattle.std.proofs.Common.{◌≡◌, ◌+◌, ◌*◌, take}
use Rattle.lines.specs.Output.{hexed, written}
use Rattle.lines.specs.Writing.{buffer_of, place_of}
use Rattle.lines.proofs.output.LineWriter.write.Given as goal

abbrev pub invariant-loop-b : goal.invariant-loop-b
invariant-loop-b l = record {
  buffer : buffer_of l.self ≡ written (buffer_of l.initial.self) (place_of l.initial.self) (hexed (take l.b-index l.bytes));
  next : place_of l.self ≡ place_of l.initial.self + 2 * l.b-index;
  same : l.self.buffer.ghost_name ≡ l.initial.self.buffer.ghost_name;
}
