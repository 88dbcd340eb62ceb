use Rattle.std.proofs.Common.{ℕ, ◌≤◌, ◌++◌, length, take, drop, replicate, ap, ◌∙◌, arith, rules}
use Rattle.std.proofs.lemmas.List.{get_or-replicate, get_or_append_left, length-replicate}
use Rattle.std.proofs.lemmas.Bool.Decides.{nat_tests}
use Rattle.seals.specs.Rows.{row_holds}
use Rattle.seals.proofs.RowLaws.{row_cleared}
use Rattle.seals.proofs.row.RowBookSealBook.clear.Goals as goal

pub returns : goal.returns
returns c =
    let ms = c.args.self.now.masks.now in
    let n = length (take 632 ms) in
    let long : 632 ≤ n = search rules in
    let rows = length-replicate {A = ℕ} n 0 in
    ap (λ xs. row_holds (xs ++ drop 632 ms)) (c.fill.ensures.after (λ y e. e))
    ∙ row_cleared (replicate n 0 ++ drop 632 ms) (λ i h. grind (arith, nat_tests, get_or-replicate, get_or_append_left))
