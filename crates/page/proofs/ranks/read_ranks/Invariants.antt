-- The invariant: the rank lines that are left give what all give, and the ranks so far are a draw.
use Rattle.std.proofs.Common.{◌≡◌, ◌+◌, ◌-◌, ◌*◌, ◌≤◌, [], length, Ok}
use Rattle.basics.specs.Elements.{elements}
use Rattle.draws.specs.Made.{table_made}
use Rattle.plans.specs.Planned.{model}
use Rattle.lines.specs.Reading.{line_now}
use Rattle.page.specs.Ranks.{meant}
use Rattle.page.specs.Run.{rows}
use Rattle.page.specs.Reading.{behind}
use Rattle.page.proofs.ranks.read_ranks.Given as goal

abbrev pub invariant-loop-k : goal.invariant-loop-k
invariant-loop-k l = record {
  rest : rows (model l.plan) (model l.plan).rounds 0 [] (behind l.initial.reader) ≡ rows (model l.plan) ((model l.plan).rounds - l.k) l.k (elements l.table) (behind l.reader);
  long : length (elements l.table) ≡ l.k * (model l.plan).n;
  lines : line_now l.reader ≡ l.k + 1;
  drawn : 1 ≤ l.k → table_made (model l.plan).n l.k (elements l.table) ≡ Ok (meant (model l.plan).n l.k (elements l.table));
}
