use Rattle.std.proofs.Common.{ℕ, Bool, false, ◌&&◌, eqb, get_or, ap, ◌∙◌, rules}
use Rattle.basics.specs.Count.{some_below}
use Rattle.model.specs.Setup.{rank_of}
use Rattle.plans.specs.Planned.{model}
use Rattle.seats.specs.Searches.{rank_noted}
use Rattle.seats.proofs.Iterators.{any_below}
use Rattle.seats.proofs.seat.Seat.noted_rank.Goals as goal

pub returns : goal.returns
unfolding rank_noted
returns c =
    let run = c.any.ensures.runs in
    let test : ℕ → Bool = λ b. get_or c.args.self.now.progress.noted b false && eqb (rank_of (model c.args.plan.now) b) c.args.rank.value in
    any_below run.0 c.numbers.result run.1 _ _ (λ a r f k. search rules) test (λ x b low k. search rules) c.any.result run.2 ∙ ap (some_below test) c.numbers.ensures.is
