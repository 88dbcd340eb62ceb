use Rattle.plans.specs.Planned.{model}
use Rattle.plans.proofs.Places.{set_more, set_same}
use Rattle.plans.proofs.plan.Plan.with_place.Goals as goal

pub returns-then-x-self : goal.returns-then-x-self
returns-then-x-self c =
    set_more (model c.args.self.now) c.args.set c.with.result c.args.x c.if-x-self.true c.args.self.now.listed c.with.ensures

pub returns-else-x-self : goal.returns-else-x-self
returns-else-x-self c = set_same (model c.args.self.now) c.args.set c.args.x c.if-x-self.false
