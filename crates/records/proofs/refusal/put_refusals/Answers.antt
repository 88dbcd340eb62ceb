-- One line more is put.
use Rattle.std.proofs.Common.{[], ◌∷◌, ◌++◌, List, ℕ, map, take, ap, ◌∙◌, sym, subst}
use Rattle.std.proofs.lemmas.List.{map_more}
use Rattle.lines.specs.Writing.{Puts}
use Rattle.lines.proofs.WriterLaws.{puts_more}
use Rattle.records.specs.Frames.{refusal_frame}
use Rattle.records.proofs.refusal.put_refusals.Goals as goal

pub loop-refusal-preserved : goal.loop-refusal-preserved
loop-refusal-preserved c =
    let fs = c.args.refusals.now in
    let i = c.loop-refusal.refusal-index in
    let ls = map refusal_frame (take i fs) in
    let so_far : List (List ℕ) → Type 0 = Puts c.args.writer.now c.put.new.self in
    subst so_far (ap (λ b. ls ++ b ∷ []) c.from.ensures ∙ sym (map_more refusal_frame fs i _ c.loop-refusal-test.true))
    (puts_more c.args.writer.now c.loop-refusal.writer c.put.new.self ls (c.from.result ∷ []) c.loop-refusal.invariant c.put.ensures)
