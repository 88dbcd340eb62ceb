-- The loop goes over the list.
use Rattle.std.proofs.Common.{◌≡◌, length, drop, ap, ◌∙◌, arith}
use lib.Seq.{drop-length}
use Rattle.schedules.proofs.Runs.{one_more_at, all_ran}
use Rattle.schedules.proofs.perform_all.Goals as goal

pub loop-call-preserved : goal.loop-call-preserved
loop-call-preserved g c = (
  c.perform.ensures.plan_stays ∙ c.loop-call.invariant.0,
  one_more_at g.B.SealView.held c.args.hall.now c.loop-call.hall c.perform.new.self c.args.calls.now c.loop-call.call-index _ _ _ c.loop-call-test.true
      c.perform.ensures c.loop-call.invariant.0 c.loop-call.invariant.1,
)

pub returns : goal.returns
returns g c =
    let xs = c.args.calls.now in
    let i = c.loop-call.call-index in
    let ended : i ≡ length xs = omega arith in
    all_ran g.B.SealView.held c.args.hall.now c.loop-call.hall c.loop-call.hall xs (drop i xs) (ap (λ j. drop j xs) ended ∙ drop-length xs) c.loop-call.invariant.0 c.loop-call.invariant.1
