-- The rank in the cell is below 13.
use Rattle.std.proofs.Common.{◌&&◌, leb, sym, ◌∙◌, arith}
use Rattle.std.proofs.lemmas.Bool.{le-leb, and_from}
use Rattle.draws.proofs.Judging.{cell_answered}
use Rattle.draws.proofs.table.TableDrawDraw.rank_of.Goals as goal

pub returns : goal.returns
returns c =
    let d = c.args.self.now in
    rw (c.value.ensures.same, c.value-2.ensures.same, c.seats.ensures) at c.new.ensures
    ∙ cell_answered d.sizes.seats d.sizes.rounds d.sizes.within.few_seats (λ x. leb 0 x && leb x 12) (λ x h. and_from _ _ (le-leb 0 x (omega arith)) (le-leb x 12 (omega arith))) d.ranks c.args.round.value c.args.seat.value (sym c.has.ensures ∙ c.if-not-has.false) d.once
