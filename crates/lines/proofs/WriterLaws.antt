-- Lemmas on a writer: no line is put, lines are put behind others, and lines that all fit are written.
use Rattle.std.proofs.Common.{◌≡◌, ℕ, ◌≤◌, List, [], ◌++◌, length, sym, refl, ap, ◌∙◌, arith}
use Rattle.lines.specs.Output.{text, put_all, place_after_all}
use Rattle.lines.specs.Writing.{buffer_of, place_of, Puts, Fills}
use Rattle.lines.specs.declared.output.LineWriter.{LineWriter}
use Rattle.lines.proofs.OutputLaws.{put_all_append, place_all_append, all_fit, over_next}

pub puts_none : (x : LineWriter) → Puts x x []
puts_none x = record { same = refl; buffer = refl; next = refl }

pub puts_more : (x y z : LineWriter) (ls ms : List (List ℕ)) → Puts x y ls → Puts y z ms → Puts x z (ls ++ ms)
puts_more x y z ls ms p q = record {
  same = q.same ∙ p.same;
  buffer = q.buffer ∙ ap (λ o. put_all o (place_of y) ms) p.buffer ∙ ap (λ k. put_all (put_all (buffer_of x) (place_of x) ls) k ms) p.next
      ∙ sym (put_all_append (buffer_of x) (place_of x) ls ms);
  next = q.next ∙ ap (λ o. place_after_all o (place_of y) ms) p.buffer ∙ ap (λ k. place_after_all (put_all (buffer_of x) (place_of x) ls) k ms) p.next
      ∙ sym (place_all_append (buffer_of x) (place_of x) ls ms);
}

-- lines that all fit, from the start of a buffer
pub puts_fill : (x y : LineWriter) (xs : List ℕ) (ls : List (List ℕ)) → buffer_of x ≡ xs → place_of x ≡ 0 → Puts x y ls → length (text ls) ≤ length xs
    → Fills xs (text ls) (buffer_of y) (place_of y)
puts_fill x y xs ls is start p h =
    let all = all_fit xs 0 ls (omega arith) in
    record {
      is = over_next xs [] (text ls) xs (buffer_of y) 0 refl refl (omega arith)
          (p.buffer ∙ ap (λ o. put_all o (place_of x) ls) is ∙ ap (λ k. put_all xs k ls) start ∙ all.0);
      size = p.next ∙ ap (λ o. place_after_all o (place_of x) ls) is ∙ ap (λ k. place_after_all xs k ls) start ∙ all.1 ∙ omega arith;
      fits = h;
    }
