use Rattle.std.proofs.Common.{ℕ, min, Bool, ◌&&◌, eqb, rules}
use Rattle.model.specs.Setup.{number}
use Rattle.model.specs.Checks.{same_list}
use Rattle.plans.specs.Planned.{model}
use Rattle.tree.specs.Payloads.{listed}
use Rattle.tree.specs.Blocks.{mades, parents, payloads}
use Rattle.seats.proofs.Iterators.{any_below}
use Rattle.hall.proofs.hall.Hall.forged_before.Goals as goal

pub returns : goal.returns
returns g c =
    let h = c.args.self.now in
    let block : ℕ → ℕ = λ v. number (model h.plan) c.args.round.value c.args.who.value (min v 2) in
    let test : ℕ → Bool = λ v. mades h.tree (block v) && (eqb (parents h.tree (block v)) c.args.parent.value && same_list (payloads h.tree (block v)) (listed c.args.payload.now)) in
    let run = c.any.ensures.runs in
    any_below run.0 3 run.1 _ _ (λ a r f k. search rules) test (λ x b low k. search rules) c.any.result run.2
