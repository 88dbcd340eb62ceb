use Rattle.std.proofs.Common.{◌≡◌, ℕ, ◌&&◌, false, eqb, ap, sym, ◌∙◌}
use Rattle.model.specs.World.{block, notarization}
use Rattle.messages.specs.Stored.{stored}
use Rattle.tree.specs.Chains.{last_places, sound_on, notarized_on}
use Rattle.tree.proofs.WalkSteps.{notarized_on-root, notarized_on-step}
use Rattle.tree.proofs.tree.walks.Chain.is_notarized.Goals as goal
use Rattle.tree.proofs.tree.walks.Chain.is_notarized.Goals.{then-not-has_notarized-via-then-not-has_notarized, then-not-has_notarized-via-else-not-has_notarized+then-not-bears}

pub returns-then-not-has_notarized : goal.returns-then-not-has_notarized
returns-then-not-has_notarized c =
    let x = c.loop-parent.chain in
    let p = c.in-Some.parent in
    let pool = stored c.args.pool.now in
    let stops : (((pool (block x.block.value) && pool (notarization x.block.value)) && sound_on p (last_places x)) && notarized_on p pool) ≡ false =
    elim c.then-not-has_notarized.branch [
      | then-not-has_notarized-via-then-not-has_notarized w ↦
          ap (λ a. (a && sound_on p (last_places x)) && notarized_on p pool) (sym c.has_notarized.ensures ∙ w.if-not-has_notarized.true)
      | then-not-has_notarized-via-else-not-has_notarized+then-not-bears w ↦
          let here = sym c.has_notarized.ensures ∙ w.if-not-has_notarized.false in
          let bears = ap (sound_on p) (sym w.places.ensures) ∙ sym w.bears.ensures ∙ w.if-not-bears.true in
          λ i. (here i && bears i) && notarized_on p pool
    ] in
    sym (c.loop-parent.invariant ∙ notarized_on-step pool c.in-Some.ensures ∙ stops)

pub loop-parent-preserved : goal.loop-parent-preserved
loop-parent-preserved c =
    let pool = stored c.args.pool.now in
    let here = sym c.has_notarized.ensures ∙ c.if-not-has_notarized.false in
    let bears = ap (sound_on c.in-Some.parent) (sym c.places.ensures) ∙ sym c.bears.ensures ∙ c.if-not-bears.false in
    c.loop-parent.invariant ∙ notarized_on-step pool c.in-Some.ensures ∙ (λ i. (here i && bears i) && notarized_on c.in-Some.parent pool)

pub returns : goal.returns
returns c =
    ap (λ (n : ℕ). eqb n 0) c.value.ensures.same
    ∙ sym (c.loop-parent.invariant ∙ notarized_on-root c.loop-parent.chain (stored c.args.pool.now) c.in_default.ensures)
