-- What a reader has still to give, as frames.
use Rattle.std.specs.Prelude.{List, Option, map}
use Rattle.lines.specs.Reading.{left, upcoming}
use Rattle.lines.specs.declared.line.Line.{Line}
use Rattle.lines.specs.declared.reader.Reader.{Reader}
use Rattle.frames.specs.Frames.{Frame, decoded, frames}

-- the frames behind the line at hand
abbrev pub behind : Reader → List (Option Frame)
behind x = frames (left x)

-- the frame of the line at hand, if there is one, and those behind it
abbrev pub coming : Option Line → Reader → List (Option Frame)
coming r x = map decoded (upcoming r x)
