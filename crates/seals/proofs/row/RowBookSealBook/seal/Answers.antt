-- A seal that cannot be or is there changes nothing; any other joins its row.
use Rattle.std.proofs.Common.{arith, rules}
use Rattle.std.proofs.lemmas.Bool.Decides.{nat_tests}
use Rattle.seals.specs.Rows.{row_holds}
use Rattle.seals.proofs.AddedLaws.{not_added}
use Rattle.seals.proofs.RowLaws.{row_sealed}
use Rattle.seals.proofs.row.RowBookSealBook.seal.Goals as goal
use Rattle.seals.proofs.row.RowBookSealBook.seal.Goals.{then-seat-ge13-via-then-seat-ge13, then-seat-ge13-via-else-seat-ge13+then-has}

pub returns-in_default-clause-after : goal.returns-in_default-clause-after
returns-in_default-clause-after c = not_added (row_holds c.args.self.now.masks.now) c.args.kind c.args.seat c.args.subject (λ ok. grind (arith, nat_tests))

pub returns-then-seat-ge13-clause-after : goal.returns-then-seat-ge13-clause-after
returns-then-seat-ge13-clause-after c =
    not_added (row_holds c.args.self.now.masks.now) c.args.kind c.args.seat c.args.subject
    (λ ok. elim c.then-seat-ge13.branch [ then-seat-ge13-via-then-seat-ge13 w ↦ grind (arith, nat_tests) | then-seat-ge13-via-else-seat-ge13+then-has w ↦ grind (arith, nat_tests) ])

pub returns-clause-after : goal.returns-clause-after
returns-clause-after c =
    row_sealed c.args.self.now.masks.now c.args.kind c.args.seat c.args.subject c.in-Some.at c.with.result
    c.args.self.now.whole (search rules) (search rules) c.if-seat-ge13.false c.with.ensures
