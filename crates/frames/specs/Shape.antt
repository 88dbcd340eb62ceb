-- The frame that a frame of the code stands for.
use Rattle.std.specs.Prelude.{Option, Some, None}
use Rattle.calls.specs.Asked.{asked}
use Rattle.frames.specs.Frames.{Frame as Shape}
use Rattle.frames.specs.Frames.Frame.{opening, card, slip, ranks, call}
use Rattle.frames.specs.declared.frame.Frame.{Frame}
use Rattle.frames.specs.declared.frame.Frame.TheVariants.{Opening, Card, Slip, Ranks, Call}

abbrev pub shape : Option Frame → Option Shape
shape (Some (Opening u)) = Some (opening u)
shape (Some (Card x)) = Some (card x)
shape (Some (Slip x)) = Some (slip x)
shape (Some (Ranks rs)) = Some (ranks rs.now)
shape (Some (Call c)) = Some (call (asked c))
shape None = None
