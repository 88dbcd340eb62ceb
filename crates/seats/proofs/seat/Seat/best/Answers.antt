use Rattle.std.proofs.Common.{ℕ, ap, ◌∙◌, rules}
use Rattle.basics.specs.Numbers.{block_value}
use Rattle.plans.specs.Planned.{model}
use Rattle.seats.specs.Searches.{best_in_rank}
use Rattle.seats.proofs.Iterators.{first_given}
use Rattle.seats.proofs.Finds.{best_from}
use Rattle.seats.proofs.seat.Seat.best.Goals as goal

pub returns : goal.returns
returns c =
    let run = c.find_map.ensures.runs in
    let p = model c.args.plan.now in
    let t = c.args.tree.now in
    let x = c.args.self.now in
    let r = c.args.rank.value in
    let low = run.1 ∙ ap (λ (n : ℕ). record { start = 0; end = n }) c.value.ensures.same in
    best_from p t x r c.find_map.result (first_given run.0 r low _ _ (λ a o f k. search rules) block_value (best_in_rank p t x r) (λ q o below k. search rules) c.find_map.result run.2)
