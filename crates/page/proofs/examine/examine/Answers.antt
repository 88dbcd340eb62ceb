-- The two refusals and the run; the law of journals stands for each.
use Rattle.std.proofs.Common.{rules, ◌≡◌, ℕ, ◌≤◌, ◌∙◌, List, sym, ap, cond, ltb, length, false, arith, length-take-le}
use Rattle.std.proofs.lemmas.Bool.Decides.{nat_tests}
use Rattle.lines.specs.Output.{over}
use Rattle.lines.proofs.OutputLaws.{over_front}
use Rattle.page.specs.Journals.{RunsKept}
use Rattle.page.specs.Run.{page, answer, buffer_after}
use Rattle.page.specs.declared.types.Sort.{Sort}
use Rattle.page.proofs.JournalLaws.{runs_kept}
use Rattle.page.proofs.examine.examine.Goals as goal

-- a submission that is not too long, to a buffer that is long enough
module _ (sort : Sort) (s xs : List ℕ) (short : length s ≤ 65535) (room : 2048 ≤ length xs) where
  in_range : (a b : ℕ) → b ≤ a → ltb a b ≡ false
  in_range a b h = grind (arith, nat_tests)

  page_written : buffer_after sort s xs ≡ over (page sort s) xs
  page_written = ap (λ b. cond b xs (cond (ltb (length xs) 2048) xs (over (page sort s) xs))) (in_range 65535 (length s) short) ∙ ap (λ b. cond b xs (over (page sort s) xs)) (in_range (length xs) 2048 room)

  page_answered : answer sort s (length xs) ≡ length (page sort s)
  page_answered = ap (λ b. cond b 1000024 (cond (ltb (length xs) 2048) 1000004 (length (page sort s)))) (in_range 65535 (length s) short) ∙ ap (λ b. cond b 1000004 (length (page sort s))) (in_range (length xs) 2048 room)

pub returns-then-submission-gt65535 : goal.returns-then-submission-gt65535
returns-then-submission-gt65535 g c = let law : RunsKept = runs_kept in search rules

pub returns-in_default : goal.returns-in_default
returns-in_default g c = let law : RunsKept = runs_kept in search rules

pub overflow_cast-result : goal.overflow_cast-result
overflow_cast-result g c =
    let filled = c.run_page.ensures in
    let chunk = c.in-Some.ensures.cases in
    omega (arith, filled.size, filled.fits, ap length chunk.same, length-take-le 2048 c.args.output.now chunk.enough)

pub returns : goal.returns
returns g c =
    let sort = c.args.sort in
    let s = c.args.submission.now in
    let xs = c.args.output.now in
    let filled = c.run_page.ensures in
    let chunk = c.in-Some.ensures.cases in
    let fits : length (page sort s) ≤ 2048 = omega (arith, filled.fits, ap length chunk.same, length-take-le 2048 xs chunk.enough) in
    record {
      buffer = over_front (page sort s) xs c.run_page.new.out 2048 fits chunk.enough (filled.is ∙ ap (over (page sort s)) chunk.same)
          ∙ sym (page_written sort s xs c.if-submission-gt65535.false chunk.enough);
      journal = runs_kept;
      answer = filled.size ∙ sym (page_answered sort s xs c.if-submission-gt65535.false chunk.enough);
    }
