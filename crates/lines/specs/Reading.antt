-- What a reader has read, and what is left.
use Rattle.std.specs.Prelude.{◌≡◌, ℕ, ◌+◌, ◌≤◌, List, [], ◌∷◌, length, Option, Some, None, IfSome}
use Rattle.lines.specs.Lines.{lines}
use Rattle.basics.specs.Elements.{elements}
use Rattle.lines.specs.declared.line.Line.{Line}
use Rattle.lines.specs.declared.reader.Reader.{Reader}

-- which line of its text a line is, from 1
abbrev pub line_number : Line → ℕ
line_number l = l.number

-- the bytes of a line: none where it is malformed
abbrev pub held : Line → List ℕ
held l = elements l.bytes

-- the text behind the lines that were read
abbrev pub left : Reader → List ℕ
left x = x.text.now

-- the lines of that text
abbrev pub lines_left : Reader → List (List ℕ)
lines_left x = lines (left x)

-- how many lines were read
abbrev pub line_now : Reader → ℕ
line_now x = x.line

-- what is still to come: the line at hand, if there is one, and then those that are left
abbrev pub upcoming : Option Line → Reader → List (List ℕ)
upcoming None x = []
upcoming (Some l) x = held l ∷ lines_left x

abbrev pub lines_read : Option Line → ℕ
lines_read None = 0
lines_read (Some _) = 1

-- the line at hand, if there is one, is the last that was read
abbrev pub IsLast : Option Line → Reader → Type 0
IsLast r x = IfSome r (λ l. line_number l ≡ line_now x)

-- One line is read, if there is one: from x to y.
pub record Next (x : Reader) (r : Option Line) (y : Reader) : Type 0 where
  pub line_is : lines_left x ≡ upcoming r y
  pub last : IsLast r y
  pub counts : line_now y ≡ line_now x + lines_read r
  pub falls : length (left y) + lines_read r ≤ length (left x)
