use Rattle.plans.proofs.Lawfulness.{plan_is_lawful}
use Rattle.plans.proofs.plan.Plan.is_lawful.Goals as goal

pub returns : goal.returns
returns c = plan_is_lawful c.args.self.now
