-- Lemmas on answers: of a value or a refusal, what was there, and which plan was made.
use Rattle.std.proofs.Common.{◌≡◌, Option, Some, None, Ok, Err, Result, ok_or, refl}
use Rattle.model.specs.Setup.{Plan as Model}
use Rattle.plans.specs.Planned.{model}
use Rattle.plans.specs.Setup.{modelled}
use Rattle.plans.specs.declared.fault.PlanFault.{PlanFault}
use Rattle.plans.specs.declared.plan.Plan.{Plan}

-- a refusal in the place of a value: there was none
pub no_value : {A E : Type 0} (o : Option A) (e y : E) → ◌≡◌ {A = Result A E} (Err y) (ok_or o e) → (o ≡ None) × (y ≡ e)
no_value None e y h = (refl, cc)
no_value (Some x) e y h = cc

-- a value: it was there
pub some_value : {A E : Type 0} (o : Option A) (e : E) (x : A) → ◌≡◌ {A = Result A E} (Ok x) (ok_or o e) → o ≡ Some x
some_value None e x h = cc
some_value (Some y) e x h = cc

-- an answer that is a plan of the rules is one of the code
pub plan_made : (r : Result Plan PlanFault) (q : Model) → modelled r ≡ Ok q → (x : Plan) × (r ≡ Ok x) × (model x ≡ q)
plan_made (Ok x) q e = (x, refl, cc)
plan_made (Err f) q e = cc
