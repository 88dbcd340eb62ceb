-- What a writer puts into its buffer.
use Rattle.std.specs.Prelude.{◌≡◌, ℕ, ◌≤◌, List, length}
use Rattle.std.specs.Borrow.{MutBor}
use Rattle.lines.specs.Output.{over, put_all, place_after_all}
use Rattle.lines.specs.declared.output.LineWriter.{LineWriter}

-- what the buffer of a writer holds
abbrev pub buffer_of : LineWriter → List ℕ
buffer_of w = w.buffer.now

-- where the next line of a writer goes
abbrev pub place_of : LineWriter → ℕ
place_of w = w.at

-- a writer writes into the buffer that was lent
pub record WritesInto (w : LineWriter) (buffer : MutBor (List ℕ)) : Type 0 where
  pub same : w.buffer.ghost_name ≡ buffer.ghost_name

-- from x to y lines are put, one behind the other, as long as they fit
pub record Puts (x y : LineWriter) (ls : List (List ℕ)) : Type 0 where
  pub same : y.buffer.ghost_name ≡ x.buffer.ghost_name
  pub buffer : buffer_of y ≡ put_all (buffer_of x) (place_of x) ls
  pub next : place_of y ≡ place_after_all (buffer_of x) (place_of x) ls

-- a buffer that held xs holds ys: bytes were written over its start, where they fit, and n is their number
pub record Fills (xs bytes ys : List ℕ) (n : ℕ) : Type 0 where
  pub is : ys ≡ over bytes xs
  pub size : n ≡ length bytes
  pub fits : length bytes ≤ length xs
