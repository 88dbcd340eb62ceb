-- The records of one kind and subject are as many as the seats, so at most 13.
use Rattle.std.proofs.Common.{◌≡◌, ℕ, ◌≤◌, refl, ◌&&◌, ◌==◌, count_by, ap, ◌∙◌, arith, lit≤}
use Rattle.basics.specs.Contents.{contents}
use Rattle.basics.specs.Count.{tally}
use Rattle.basics.proofs.CountLaws.{tally_le}
use Rattle.seals.specs.Listed.{list_holds}
use Rattle.seals.proofs.ListLaws.{counted}
use Rattle.seals.proofs.listed.ListedBookSealView.count.Goals as goal
use Rattle.seals.proofs.listed.ListedBookSealView.count.Goals.{After-count_of}

seats : (top : ℕ) → 13 ≤ top → (c : After-count_of) → c.count_of.result ≡ tally (λ s. list_holds (contents c.args.self.now.records) c.args.kind s c.args.subject) top
seats top big c =
    c.count_of.ensures ∙ ap (count_by (λ x. x.kind == c.args.kind && x.subject == c.args.subject)) c.as_slice.ensures
    ∙ counted top big c.args.kind c.args.subject (contents c.args.self.now.records) c.args.self.now.good

few : (top : ℕ) → top ≡ 13 → (c : After-count_of) → c.count_of.result ≤ 13
few top e c = omega (arith, seats top (omega arith) c, tally_le (λ s. list_holds (contents c.args.self.now.records) c.args.kind s c.args.subject) top)

pub overflow_cast-result : goal.overflow_cast-result
overflow_cast-result c = omega (arith, few 13 refl c)

pub returns : goal.returns
returns c = seats 13 (lit≤ tt) c
