-- What a judged first line gives.
use Rattle.std.specs.Prelude.{Ok, Err, Result}
use Rattle.model.specs.Setup.{Plan as Model}
use Rattle.plans.specs.Planned.{model}
use Rattle.page.specs.declared.types.Start.{Start}
use Rattle.page.specs.declared.fault.PageFault.{PageFault}

-- an answer, with the plan of the rules in place of the code's
abbrev pub started : Result Start PageFault → Result Model PageFault
started (Ok x) = Ok (model x.plan)
started (Err f) = Err f
