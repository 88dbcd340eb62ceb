use Rattle.plans.proofs.Likeness.{rows_self, rows_back}
use Rattle.plans.proofs.plan.Plan.set_entries.Goals as goal

pub invariant_of-self-clause-same : goal.invariant_of-self-clause-same
invariant_of-self-clause-same g c = rows_self g.E.Entry.alike c.args.entries.now c.likeness_of-self.result c.likeness_of-self.ensures g.met.E.Entry.same

pub invariant_of-self-clause-back : goal.invariant_of-self-clause-back
invariant_of-self-clause-back g c = rows_back g.E.Entry.alike c.args.entries.now c.likeness_of-self.result c.likeness_of-self.ensures g.met.E.Entry.turned
