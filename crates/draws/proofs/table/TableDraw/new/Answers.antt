-- The copied table has the ranks that were judged.
use Rattle.std.proofs.Common.{sym, ap, ◌∙◌, ap₂, arith}
use Rattle.std.proofs.lemmas.Bool.{not-true, not-false, cond-true, cond-false}
use Rattle.std.proofs.lemmas.Option.{MatchOption-at_some}
use Rattle.draws.specs.Ranks.{some_misplaced}
use Rattle.draws.specs.Made.{table_made}
use Rattle.draws.proofs.Judging.{front_same, table_same, table_judged}
use Rattle.draws.proofs.table.TableDraw.new.Goals as goal

pub returns-then-not-all_once : goal.returns-then-not-all_once
returns-then-not-all_once c =
    let s = c.in_ok-sizes.sizes in
    let xs = c.args.ranks.now in
    let part = MatchOption-at_some _ _ c.in_ok-listed.listed c.in_ok-listed.ensures.ok_part c.get.ensures.lookup.0 in
    let same = front_same s.seats s.rounds xs c.in_ok-listed.listed.now c.pairs.result c.pairs.ensures part.1 part.2 in
    let bad = not-false _ (sym c.if-not-all_once.ensures) in
    sym (cond-true _ _ _ bad) ∙ table_judged s.seats s.rounds s.within xs _ (omega (arith, part.1)) same
    ∙ ap₂ (λ n R. table_made n R xs) c.in_ok-sizes.ensures.same.0 c.in_ok-sizes.ensures.same.1

pub invariant_of-result : goal.invariant_of-result
invariant_of-result c =
    let s = c.in_ok-sizes.sizes in
    let part = MatchOption-at_some _ _ c.in_ok-listed.listed c.in_ok-listed.ensures.ok_part c.get.ensures.lookup.0 in
    let copied = table_same s.seats s.rounds c.copied.result c.in_ok-listed.listed.now (λ i h. c.copied.ensures i (omega (arith, part.3, c.pairs.ensures))) in
    record { once = ap (some_misplaced s.seats s.rounds) copied ∙ not-true _ (sym c.if-not-all_once.ensures) }

pub returns : goal.returns
returns c =
    let s = c.in_ok-sizes.sizes in
    let xs = c.args.ranks.now in
    let part = MatchOption-at_some _ _ c.in_ok-listed.listed c.in_ok-listed.ensures.ok_part c.get.ensures.lookup.0 in
    let same = front_same s.seats s.rounds xs c.in_ok-listed.listed.now c.pairs.result c.pairs.ensures part.1 part.2 in
    let copied = table_same s.seats s.rounds c.copied.result c.in_ok-listed.listed.now (λ i h. c.copied.ensures i (omega (arith, part.3, c.pairs.ensures))) in
    let good = ap (some_misplaced s.seats s.rounds) copied ∙ not-true _ (sym c.if-not-all_once.ensures) in
    sym (cond-false _ _ _ good) ∙ table_judged s.seats s.rounds s.within xs _ (omega (arith, part.1)) (copied ∙ same)
    ∙ ap₂ (λ n R. table_made n R xs) c.in_ok-sizes.ensures.same.0 c.in_ok-sizes.ensures.same.1
