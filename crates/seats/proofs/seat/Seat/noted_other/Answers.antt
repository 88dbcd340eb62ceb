use Rattle.std.proofs.Common.{ℕ, Bool, false, not, ◌&&◌, eqb, get_or, ap, ◌∙◌, rules}
use Rattle.basics.specs.Count.{some_below}
use Rattle.seats.specs.Searches.{other_noted}
use Rattle.seats.proofs.Iterators.{any_below}
use Rattle.seats.proofs.seat.Seat.noted_other.Goals as goal

pub returns : goal.returns
unfolding other_noted
returns c =
    let run = c.any.ensures.runs in
    let test : ℕ → Bool = λ b. get_or c.args.self.now.progress.noted b false && not (eqb b c.args.block.value) in
    any_below run.0 c.numbers.result run.1 _ _ (λ a r f k. search rules) test (λ x b low k. search rules) c.any.result run.2 ∙ ap (some_below test) c.numbers.ensures.is
