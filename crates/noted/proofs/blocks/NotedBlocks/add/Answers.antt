-- The bounds hold of the new flag and of those before.
use Rattle.std.proofs.Common.{inl, inr, arith}
use Rattle.noted.proofs.Searches.{raised_one}
use Rattle.noted.proofs.blocks.NotedBlocks.add.Goals as goal

pub invariant_of-self-clause-above : goal.invariant_of-self-clause-above
invariant_of-self-clause-above c q =
    let x = c.args.self.now in
    elim (raised_one x.flags c.value-number.result q) [
      | inl e ↦ omega arith
      | inr r ↦ omega (arith, x.above (record { at = q.at; is_raised = r }))
    ]

pub invariant_of-self-clause-below : goal.invariant_of-self-clause-below
invariant_of-self-clause-below c q =
    let x = c.args.self.now in
    elim (raised_one x.flags c.value-number.result q) [
      | inl e ↦ omega arith
      | inr r ↦ omega (arith, x.below (record { at = q.at; is_raised = r }))
    ]
