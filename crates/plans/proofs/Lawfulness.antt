-- A plan's invariant is all that the law asks of a plan.
use Rattle.model.specs.Setup.{Lawful}
use Rattle.plans.specs.declared.plan.Plan.{Plan}
use Rattle.plans.specs.Planned.{model}

pub plan_is_lawful : (x : Plan) → Lawful (model x)
plan_is_lawful x = record {
  faults = x.outvoted;
  few = x.rare;
  some_round = x.sizes.within.some_round;
  rank_below = λ k s h. x.below (record { round = k; one = s; other = s; one_low = h; other_low = h });
  rank_once = λ k s s' h h' e. x.apart (record { round = k; one = s; other = s'; one_low = h; other_low = h' }) e;
  like_self = λ a h. x.same (record { one = a; other = a; one_low = h; other_low = h });
  like_back = λ a b h h' e. x.back (record { one = a; other = b; one_low = h; other_low = h' }) e;
}
