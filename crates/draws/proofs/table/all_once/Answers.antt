-- The judged rounds, one by one.
use Rattle.std.proofs.Common.{rules, arith}
use Rattle.draws.proofs.Judging.{all_judged}
use Rattle.draws.proofs.table.all_once.Goals as goal

pub returns : goal.returns
returns c =
    let ran = c.all.ensures.runs in
    let sizes = c.args.sizes in
    let xs = c.args.ranks.now in
    let rounds = rw (ran.1, c.chunks_exact.ensures.size, c.chunks_exact.ensures.rest, c.seats.ensures) at (c.chunks_exact.ensures.runs ran.0 ran.0.seen) in
    all_judged ran.0 sizes.seats sizes.rounds xs sizes.within.some_seat c.requires (rounds (omega (arith, sizes.within.some_seat))) c.all.result c.args.ranks ran.2 (λ x b f' called. search rules)
