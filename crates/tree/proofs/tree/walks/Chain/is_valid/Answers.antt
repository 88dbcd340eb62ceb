use Rattle.std.proofs.Common.{◌≡◌, ℕ, ◌&&◌, eqb, ap, sym, ◌∙◌}
use Rattle.model.specs.World.{block}
use Rattle.messages.specs.Stored.{stored}
use Rattle.tree.specs.Chains.{sound_on, notarized_on}
use Rattle.tree.proofs.WalkSteps.{and_then, and_else, valid_on-root, valid_on-step}
use Rattle.tree.proofs.tree.walks.Chain.is_valid.Goals as goal
use Rattle.tree.proofs.tree.walks.Chain.is_valid.Goals.{then-contains, else-contains}

pub returns-in_default : goal.returns-in_default
returns-in_default c = ap (λ (n : ℕ). eqb n 0) c.value.ensures.same ∙ sym (valid_on-root c.args.self.now (stored c.args.pool.now) c.in_default.ensures)

pub returns-then-is_notarized : goal.returns-then-is_notarized
returns-then-is_notarized c =
    let pool = stored c.args.pool.now in
    let both : c.if-contains.value ≡ (pool (block c.args.self.now.block.value) && notarized_on c.in-Some.parent pool) =
    elim c.if-contains.branch [
      | then-contains w ↦ w.value-is ∙ and_then w.if-contains.true c.contains.ensures w.is_notarized.ensures
      | else-contains w ↦ w.value-is ∙ and_else _ w.if-contains.false c.contains.ensures
    ] in
    and_then c.if-is_notarized.true both (c.bears.ensures ∙ ap (sound_on c.in-Some.parent) c.places.ensures) ∙ sym (valid_on-step pool c.in-Some.ensures)

pub returns-else-is_notarized : goal.returns-else-is_notarized
returns-else-is_notarized c =
    let pool = stored c.args.pool.now in
    let both : c.if-contains.value ≡ (pool (block c.args.self.now.block.value) && notarized_on c.in-Some.parent pool) =
    elim c.if-contains.branch [
      | then-contains w ↦ w.value-is ∙ and_then w.if-contains.true c.contains.ensures w.is_notarized.ensures
      | else-contains w ↦ w.value-is ∙ and_else _ w.if-contains.false c.contains.ensures
    ] in
    and_else _ c.if-is_notarized.false both ∙ sym (valid_on-step pool c.in-Some.ensures)
