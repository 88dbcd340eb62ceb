-- One rank more is added.
use Rattle.std.proofs.Common.{arith}
use Rattle.basics.specs.Elements.{elements}
use Rattle.page.proofs.RankLaws.{pushed_more}
use Rattle.page.proofs.ranks.push_all.Goals as goal

pub loop-rank-preserved : goal.loop-rank-preserved
loop-rank-preserved c =
    pushed_more (elements c.args.table.now) c.args.ranks.now (elements c.loop-rank.table) (elements c.push.new.self) c.loop-rank.rank-index 104 c.push.result
    (omega arith) (omega arith) c.loop-rank.invariant c.push.ensures.answer c.push.ensures.after
