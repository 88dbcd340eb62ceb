-- One line more is taken.
use Rattle.std.proofs.Common.{◌≡◌, ◌+◌, ◌∷◌, Option, Some, map, sym, refl, ap, ◌∙◌, subst, arith}
use Rattle.plans.specs.Planned.{model}
use Rattle.hall.specs.Worlds.{world}
use Rattle.basics.specs.Elements.{elements}
use Rattle.lines.specs.Reading.{line_now, lines_read, IsLast}
use Rattle.lines.specs.declared.line.Line.{Line}
use Rattle.frames.specs.Frames.{decoded}
use Rattle.frames.specs.Shape.{shape}
use Rattle.records.specs.declared.totals.Counts.{Counts}
use Rattle.page.specs.Reading.{behind, coming}
use Rattle.page.specs.Calls.{called, no_counts, step_world, step_refusals, step_counts}
use Rattle.page.proofs.LineLaws.{some_read, call_line, step_most, step_sum}
use Rattle.page.proofs.run.run_calls.Goals as goal

pub loop-at_hand-init : goal.loop-at_hand-init
loop-at_hand-init g c = record { all = refl; plan = refl; last = c.requires; few = omega (arith, some_read c.args.first c.args.reader.now c.requires); sum = refl }

pub loop-at_hand-preserved : goal.loop-at_hand-preserved
loop-at_hand-preserved g c =
    let p = model c.args.hall.now.plan in
    let q = model c.loop-at_hand.hall.plan in
    let w = world g.B.SealView.held c.loop-at_hand.hall in
    let x = c.loop-at_hand.reader in
    let y = c.next-at_hand.new.self in
    let l = c.in-Some.line in
    let fs = elements c.loop-at_hand.refusals in
    let n = c.loop-at_hand.counts in
    let f = shape c.decode.result in
    let inv = c.loop-at_hand.invariant in
    let done = c.take_line.ensures in
    let step = c.next-at_hand.ensures.steps in
    let here : coming c.loop-at_hand.at_hand x ≡ f ∷ behind x =
    ap (λ r. coming r x) c.in-Some.is ∙ ap (λ r. r ∷ behind x) (sym (c.decode.ensures ∙ ap decoded c.bytes.ensures)) in
    let last : IsLast (Some l) x = let at : Option Line → Type 0 = λ r. IsLast r x in subst at c.in-Some.is inv.last in
    let counts : c.take_line.new.counts ≡ step_counts p w n f = done.counts ∙ ap (λ r. step_counts r w n f) inv.plan in
    record {
      all = call_line p w (world g.B.SealView.held c.take_line.new.hall) fs (elements c.take_line.new.refusals) n c.take_line.new.counts (line_now x) (line_now y)
          (coming c.loop-at_hand.at_hand x) f (behind x) c.next-at_hand.result y
          (called p (world g.B.SealView.held c.args.hall.now) (line_now c.args.reader.now) (elements c.args.refusals.now) no_counts (coming c.args.first c.args.reader.now))
          inv.all here (done.world ∙ ap (λ r. step_world r w f) inv.plan)
          (done.refusals ∙ ap (λ r. step_refusals r w c.number.result fs f) inv.plan ∙ ap (λ k. step_refusals p w k fs f) (c.number.ensures ∙ last)) counts
          (ap (map decoded) step.line_is) step.counts;
      plan = done.plan ∙ inv.plan;
      last = step.last;
      few = omega (arith, ap (λ (r : Counts). r.calls) counts, step_most n p w f, step.counts, inv.few, ap lines_read c.in-Some.is);
      sum = ap (λ (r : Counts). r.accepted + r.refused) counts ∙ step_sum n p w f inv.sum ∙ sym (ap (λ (r : Counts). r.calls) counts);
    }
