use Rattle.std.proofs.Common.{◌&&◌, sym, ap, ◌∙◌}
use Rattle.std.proofs.lemmas.Bool.{lt-ltb}
use Rattle.model.specs.World.{unlike_all}
use Rattle.plans.specs.Planned.{model}
use Rattle.plans.proofs.Places.{meets_unlike}
use Rattle.plans.proofs.plan.Plan.fits.Goals as goal

pub returns-then-x-self : goal.returns-then-x-self
returns-then-x-self c ys is =
    let p = model c.args.self.now in
    let x = c.args.x in
    meets_unlike c.args.self.now x c.args.set c.meets.result c.if-x-self.true c.meets.ensures ys is
    ∙ sym (ap (λ b. b && unlike_all p x ys) (lt-ltb x p.entries c.if-x-self.true))
