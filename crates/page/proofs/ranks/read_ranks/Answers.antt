-- A line that is missing, or malformed, or has a rank twice ends the reading; any other adds its ranks.
use Rattle.std.proofs.Common.{◌≡◌, suc, ◌+◌, ◌-◌, ◌*◌, ◌≤◌, true, [], ◌++◌, map, length, Ok, sym, ap, ◌∙◌, mul_comm, add-mul, arith, length-append}
use Rattle.std.proofs.lemmas.Nat.{mul-le}
use Rattle.std.proofs.lemmas.Result.{err_from_is_err_and}
use Rattle.basics.specs.Elements.{elements}
use Rattle.draws.specs.Made.{in_bounds, table_made}
use Rattle.plans.specs.Planned.{model}
use Rattle.plans.specs.declared.fault.PlanFault.TheVariants.{Draw}
use Rattle.lines.specs.Reading.{held, lines_read}
use Rattle.frames.specs.Frames.{decoded}
use Rattle.page.specs.Refusals.{refusal}
use Rattle.page.specs.Reading.{behind, coming}
use Rattle.page.specs.Record.{only}
use Rattle.page.specs.Ranks.{row, meant}
use Rattle.page.specs.Run.{rows}
use Rattle.page.specs.declared.fault.PageFault.TheVariants.{Malformed, Plan}
use Rattle.page.proofs.RankLaws.{rows_end, row_short, row_out, row_in, row_refused, row_stands, bounds_fewer, made_is}
use Rattle.page.proofs.AnswerLaws.{no_value, some_value}
use Rattle.page.proofs.ranks.read_ranks.Goals as goal

pub returns-in_err-line : goal.returns-in_err-line
returns-in_err-line c =
    let p = model c.args.plan.now in
    let k = c.loop-k.k in
    let e : p.rounds - k ≡ suc (p.rounds - (k + 1)) = omega (arith, c.rounds-k-end.ensures.is) in
    let j : k + 2 ≡ c.from-place.result + 2 = omega (arith, c.from-place.ensures) in
    let none = no_value c.next.result c.refused_at-malformed.result c.in_err-line.field-0.0 c.in_err-line.ensures.value in
    let out = err_from_is_err_and c.from_residual.result c.from_residual.ensures.1 in
    rw (out.1, out.2)
    (rows_end p (p.rounds - k) (p.rounds - (k + 1)) k (elements c.loop-k.table) (behind c.loop-k.reader) (rows p p.rounds 0 [] (behind c.args.reader.now)) e c.loop-k.invariant.rest
    (ap (map decoded) c.next.ensures.steps.line_is ∙ ap (λ r. coming r c.next.new.self) none.0)
    ∙ ap (λ i. only (refusal i Malformed)) j ∙ ap only (sym (none.1 ∙ c.refused_at-malformed.ensures)))

pub returns-then-ranks-from : goal.returns-then-ranks-from
returns-then-ranks-from c =
    let p = model c.args.plan.now in
    let k = c.loop-k.k in
    let y = c.next.new.self in
    let l = c.in_ok-line.line in
    let e : p.rounds - k ≡ suc (p.rounds - (k + 1)) = omega (arith, c.rounds-k-end.ensures.is) in
    let j : k + 2 ≡ c.from-place.result + 2 = omega (arith, c.from-place.ensures) in
    let some = some_value c.next.result c.refused_at-malformed.result l c.in_ok-line.ensures.value in
    row_short p (p.rounds - k) (p.rounds - (k + 1)) k (elements c.loop-k.table) (behind c.loop-k.reader) (rows p p.rounds 0 [] (behind c.args.reader.now)) e c.loop-k.invariant.rest
    (decoded (held l)) (behind y) c.row-ranks.result.now (ap (map decoded) c.next.ensures.steps.line_is ∙ ap (λ r. coming r y) some)
    (c.row-ranks.ensures ∙ ap row (c.decode.ensures ∙ ap decoded c.bytes.ensures))
    (λ h. c.if-ranks-from.true (h ∙ sym c.seats-n.ensures.is ∙ sym c.from.ensures))
    ∙ ap (λ i. only (refusal i Malformed)) j ∙ ap only (sym c.refused_at-malformed.ensures)

pub push_all-requires : goal.push_all-requires
push_all-requires c =
    let k = c.loop-k.k in
    let n = (model c.args.plan.now).n in
    omega (arith, mul-le (k + 1) n 8 13 (omega (arith, c.rounds-k-end.ensures.few)) (omega (arith, c.seats-n.ensures.is, c.seats-n.ensures.few)), add-mul k 1 n, c.loop-k.invariant.long, c.if-ranks-from.false, c.from.ensures, c.seats-n.ensures.is)

pub returns-in_err-judge_ranks : goal.returns-in_err-judge_ranks
returns-in_err-judge_ranks c =
    let p = model c.args.plan.now in
    let k = c.loop-k.k in
    let y = c.next.new.self in
    let l = c.in_ok-line.line in
    let t = elements c.loop-k.table in
    let xs = c.row-ranks.result.now in
    let long : length xs ≡ p.n = c.if-ranks-from.false ∙ c.from.ensures ∙ c.seats-n.ensures.is in
    let e : p.rounds - k ≡ suc (p.rounds - (k + 1)) = omega (arith, c.rounds-k-end.ensures.is) in
    let j : c.from-place.result + 2 ≡ k + 2 = omega (arith, c.from-place.ensures) in
    let b : in_bounds p.n (k + 1) ≡ true = bounds_fewer p.n p.rounds (k + 1) c.requires.sizes (omega arith) (omega (arith, c.rounds-k-end.ensures.is)) in
    let m : p.n * (k + 1) ≤ length (t ++ xs) = omega (arith, mul_comm p.n (k + 1), add-mul k 1 p.n, length-append t xs, c.loop-k.invariant.long, long) in
    let some = some_value c.next.result c.refused_at-malformed.result l c.in_ok-line.ensures.value in
    let table : c.as_slice.result.now ≡ t ++ xs = c.as_slice.ensures ∙ c.push_all.ensures in
    let made : table_made c.seats-n.result (k + 1) c.as_slice.result.now ≡ table_made p.n (k + 1) (t ++ xs) =
    ap (λ n. table_made n (k + 1) c.as_slice.result.now) c.seats-n.ensures.is ∙ ap (table_made p.n (k + 1)) table in
    let refused = row_refused (c.from-place.result + 2) _ c.in_err-judge_ranks.field-0.0 c.in_err-judge_ranks.ensures in
    let out = err_from_is_err_and c.from_residual-in_err-judge_ranks.result c.from_residual-in_err-judge_ranks.ensures.1 in
    rw (out.1, out.2)
    (row_out p (p.rounds - k) (p.rounds - (k + 1)) k t (behind c.loop-k.reader) (rows p p.rounds 0 [] (behind c.args.reader.now)) e c.loop-k.invariant.rest
    (decoded (held l)) (behind y) xs (ap (map decoded) c.next.ensures.steps.line_is ∙ ap (λ r. coming r y) some) (c.row-ranks.ensures ∙ ap row (c.decode.ensures ∙ ap decoded c.bytes.ensures))
    long b m refused.0 (sym refused.1 ∙ made)
    ∙ ap (λ i. only (refusal i (Plan (Draw refused.0)))) (sym j) ∙ ap only (sym refused.2))

pub loop-k-preserved : goal.loop-k-preserved
loop-k-preserved c =
    let p = model c.args.plan.now in
    let k = c.loop-k.k in
    let y = c.next.new.self in
    let l = c.in_ok-line.line in
    let t = elements c.loop-k.table in
    let xs = c.row-ranks.result.now in
    let long : length xs ≡ p.n = c.if-ranks-from.false ∙ c.from.ensures ∙ c.seats-n.ensures.is in
    let e : p.rounds - k ≡ suc (p.rounds - (k + 1)) = omega (arith, c.rounds-k-end.ensures.is) in
    let j : c.from-place.result + 2 ≡ k + 2 = omega (arith, c.from-place.ensures) in
    let b : in_bounds p.n (k + 1) ≡ true = bounds_fewer p.n p.rounds (k + 1) c.requires.sizes (omega arith) (omega (arith, c.rounds-k-end.ensures.is)) in
    let m : p.n * (k + 1) ≤ length (t ++ xs) = omega (arith, mul_comm p.n (k + 1), add-mul k 1 p.n, length-append t xs, c.loop-k.invariant.long, long) in
    let some = some_value c.next.result c.refused_at-malformed.result l c.in_ok-line.ensures.value in
    let table : c.as_slice.result.now ≡ t ++ xs = c.as_slice.ensures ∙ c.push_all.ensures in
    let made : table_made c.seats-n.result (k + 1) c.as_slice.result.now ≡ table_made p.n (k + 1) (t ++ xs) =
    ap (λ n. table_made n (k + 1) c.as_slice.result.now) c.seats-n.ensures.is ∙ ap (table_made p.n (k + 1)) table in
    let stands = row_stands (c.from-place.result + 2) _ c.in_ok-judge_ranks.ensures in
    let now = c.push_all.ensures in
    record {
      rest = row_in p (p.rounds - k) (p.rounds - (k + 1)) k t (behind c.loop-k.reader) (rows p p.rounds 0 [] (behind c.args.reader.now)) e c.loop-k.invariant.rest
          (decoded (held l)) (behind y) xs (ap (map decoded) c.next.ensures.steps.line_is ∙ ap (λ r. coming r y) some) (c.row-ranks.ensures ∙ ap row (c.decode.ensures ∙ ap decoded c.bytes.ensures))
          long b m stands.0 (stands.1 ∙ made)
          ∙ ap (λ r. rows p (p.rounds - (k + 1)) (k + 1) r (behind y)) (sym now);
      long = omega (arith, ap length now, length-append t xs, c.loop-k.invariant.long, long, add-mul k 1 p.n);
      lines = omega (arith, c.next.ensures.steps.counts, c.loop-k.invariant.lines, ap lines_read some);
      drawn = λ _. ap (table_made p.n (k + 1)) now ∙ made_is p.n (k + 1) (t ++ xs) stands.0 b m (stands.1 ∙ made) ∙ ap (λ r. Ok (meant p.n (k + 1) r)) (sym now);
    }
