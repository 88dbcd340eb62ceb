-- A line feed ends the search; without one the text ends.
use Rattle.std.proofs.Common.{◌≡◌, ◌+◌, ◌-◌, length, take, drop, sym, ◌∙◌, arith, length-drop}
use Rattle.std.proofs.lemmas.List.{take_all}
use Rattle.lines.proofs.LineLaws.{later_behind, later_nowhere}
use Rattle.lines.proofs.reader.behind_feed.Goals as goal

pub returns-in-Some : goal.returns-in-Some
returns-in-Some c =
    let text = c.args.text.now in
    let rest = drop (c.in-Some.i + 1) text in
    let all : take (length text - (c.in-Some.i + 1)) rest ≡ rest = take_all _ rest (omega (arith, length-drop (c.in-Some.i + 1) text)) in
    all ∙ sym (later_behind text c.in-Some.i (sym c.in-Some.is ∙ c.feed_at.ensures))

pub returns-in-None : goal.returns-in-None
returns-in-None c = sym (later_nowhere c.args.text.now (sym c.in-None.is ∙ c.feed_at.ensures))
