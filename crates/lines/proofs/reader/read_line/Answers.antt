-- A line of pairs and a line feed has their bytes; any other has none.
use Rattle.std.proofs.Common.{rules, ◌≡◌, ◌-◌, ◌*◌, ◌<◌, ◌∷◌, length, get_or, drop, sym, ap, ◌∙◌, ◌≢◌, arith, length-drop}
use Rattle.std.proofs.lemmas.List.{take_all}
use Rattle.lines.specs.Lines.{lines, later, leading_bytes}
use Rattle.basics.specs.Elements.{elements}
use Rattle.lines.proofs.LineLaws.{later_shorter, feed_inside}
use Rattle.lines.proofs.PairLaws.{line_read, line_lost}
use Rattle.lines.proofs.reader.read_line.Goals.{then-rest-lt1, else-rest-lt1+in_default-1}
use Rattle.lines.proofs.reader.read_line.Goals as goal

pub returns-in-10-clause-line : goal.returns-in-10-clause-line
returns-in-10-clause-line c =
    let text = c.args.text.now in
    let rest = c.read_pairs.result.1.now in
    let bs = elements c.read_pairs.result.0 in
    let is : rest ≡ drop (2 * length (leading_bytes 16 text)) text = c.read_pairs.ensures.behind in
    let feed : get_or rest 0 0 ≡ 10 = search rules in
    line_read text rest c.requires is feed
    ∙ ap (λ l. l ∷ lines (drop 1 rest)) (sym c.read_pairs.ensures.bytes)
    ∙ ap (λ r. bs ∷ lines r) (sym (take_all (length rest - 1) (drop 1 rest) (omega (arith, length-drop 1 rest))))

pub returns-clause-line : goal.returns-clause-line
returns-clause-line c =
    let text = c.args.text.now in
    let rest = c.read_pairs.result.1.now in
    let is : rest ≡ drop (2 * length (leading_bytes 16 text)) text = c.read_pairs.ensures.behind in
    let feed : get_or rest 0 0 ≢ 10 =
    elim c.if-rest-lt1.branch [
      | then-rest-lt1 w ↦ let short : length rest < 1 = search rules in λ e. absurd (omega (arith, feed_inside rest 0 e))
      | else-rest-lt1+in_default-1 w ↦ search rules
    ] in
    line_lost text rest c.requires is feed
    ∙ ap (λ l. l ∷ lines (later rest)) (sym c.empty.ensures)
    ∙ ap (λ r. elements c.empty.result ∷ lines r) (sym c.behind_feed.ensures)

pub returns-clause-shorter : goal.returns-clause-shorter
returns-clause-shorter c =
    let text = c.args.text.now in
    let rest = c.read_pairs.result.1.now in
    omega (arith, c.requires, ap length c.behind_feed.ensures, later_shorter rest, ap length c.read_pairs.ensures.behind, length-drop (2 * length (leading_bytes 16 text)) text)
