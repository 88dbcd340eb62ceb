-- The judged round, seat by seat.
use Rattle.std.proofs.Common.{length, slice_index, sym, refl, inl, inr}
use Rattle.std.proofs.lemmas.Bool.{not_from_true}
use Rattle.basics.proofs.BitLaws.{bit_none}
use Rattle.draws.proofs.Judging.{found}
use Rattle.draws.proofs.table.round_once.Goals as goal
use Rattle.draws.proofs.table.round_once.Goals.{then-rank-ranks-via-then-rank-ranks, then-rank-ranks-via-else-rank-ranks+then-has}

pub loop-rank-init : goal.loop-rank-init
loop-rank-init c = ((λ j. bit_none j), refl)

pub returns-then-rank-ranks : goal.returns-then-rank-ranks
returns-then-rank-ranks c =
    let ranks = c.args.ranks.now in
    sym (not_from_true _ (found (slice_index ranks) (length ranks) c.loop-rank.rank-index c.loop-rank.seen c.loop-rank-test.true c.loop-rank.invariant.0
    (elim c.then-rank-ranks.branch [ then-rank-ranks-via-then-rank-ranks w ↦ inl w.if-rank-ranks.true | then-rank-ranks-via-else-rank-ranks+then-has w ↦ inr (sym w.if-has.ensures) ])))
