-- The invariant: the bytes that were read, and those that may still be.
use Rattle.std.proofs.Common.{◌≡◌, ◌-◌, ◌*◌, ◌≤◌, ◌++◌, length, take, drop}
use Rattle.lines.specs.Lines.{leading_bytes}
use Rattle.lines.proofs.reader.read_pairs.Given as goal

abbrev pub invariant-loop-count : goal.invariant-loop-count
invariant-loop-count l = record {
  read : leading_bytes 16 l.text ≡ take l.count l.slots ++ leading_bytes (16 - l.count) l.behind;
  rest : l.behind ≡ drop (2 * l.count) l.text;
  few : l.count ≤ 16;
  room : length l.slots ≡ 16;
}

abbrev pub decreases-loop-count : goal.decreases-loop-count
decreases-loop-count l = length l.behind
