use Rattle.std.proofs.Common.{◌&&◌, ap, sym, ◌∙◌}
use Rattle.tree.specs.Chains.{places_on, unlike_by}
use Rattle.tree.proofs.WalkSteps.{places_on-root, unlike-step}
use Rattle.tree.proofs.tree.walks.Chain.is_unlike.Goals as goal

pub returns-then-not-unlike : goal.returns-then-not-unlike
returns-then-not-unlike c =
    sym (c.loop-parent.invariant ∙ unlike-step c.args.x c.in-Some.ensures c.places.ensures c.unlike.ensures
    ∙ ap (λ r. r && unlike_by c.in-Some.parent c.args.x (places_on c.in-Some.parent)) c.if-not-unlike.true)

pub loop-parent-preserved : goal.loop-parent-preserved
loop-parent-preserved c =
    c.loop-parent.invariant ∙ unlike-step c.args.x c.in-Some.ensures c.places.ensures c.unlike.ensures
    ∙ ap (λ r. r && unlike_by c.in-Some.parent c.args.x (places_on c.in-Some.parent)) c.if-not-unlike.false

pub returns : goal.returns
returns c = sym (c.loop-parent.invariant ∙ ap (unlike_by c.loop-parent.chain c.args.x) (places_on-root c.loop-parent.chain c.in_default.ensures))
