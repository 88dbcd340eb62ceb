-- The invariant: the lines that are left give what all give.
use Rattle.std.proofs.Common.{◌≡◌, ◌+◌, length}
use Rattle.basics.specs.Elements.{elements}
use Rattle.lines.specs.Reading.{left, line_now}
use Rattle.page.specs.Run.{collected}
use Rattle.page.specs.Reading.{behind}
use Rattle.model.specs.Setup.{Plan as Model}
use Rattle.page.proofs.entry_table.fill_entries.Given as goal

abbrev pub invariant-loop-line : goal.invariant-loop-line
invariant-loop-line l = (p : Model) →
    collected l.sort p (elements l.initial.entries) (line_now l.initial.reader + 1) (elements l.initial.refusals) (behind l.initial.reader)
    ≡ collected l.sort p (elements l.entries) (line_now l.reader + 1) (elements l.refusals) (behind l.reader)

abbrev pub decreases-loop-line : goal.decreases-loop-line
decreases-loop-line l = length (left l.reader)
