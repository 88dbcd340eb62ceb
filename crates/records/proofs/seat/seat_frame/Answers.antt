-- One more block: its two bytes.
use Rattle.std.proofs.Common.{◌≡◌, ◌<◌, ◌+◌, ◌/◌, ◌%◌, ℕ, [], ◌∷◌, ◌++◌, List, length, get_or, take, ap, ◌∙◌, sym, arith}
use Rattle.std.proofs.lemmas.List.{length-take-le, take_more}
use Rattle.basics.specs.Elements.{elements}
use Rattle.records.specs.Frames.{wides}
use Rattle.records.proofs.FrameLaws.{pushed_two, wides_push, length_wides}
use Rattle.records.proofs.seat.seat_frame.Goals as goal

pub loop-block-preserved : goal.loop-block-preserved
loop-block-preserved c =
    let bs = take c.args.report.count c.args.report.catalogue in
    let i = c.loop-block.block-index in
    let b = get_or bs i 0 in
    let bytes = c.to_be_bytes.result in
    let head = λ (r : List ℕ). 224 ∷ c.args.seat ∷ c.args.report.state ∷ c.args.report.round ∷ c.args.report.k_max ∷ r in
    let room : length (elements c.loop-block.frame) + 1 < 21 =
    omega (arith, ap length c.loop-block.invariant, length_wides (take i bs), length-take-le i bs (omega arith)) in
    let high : get_or bytes 0 0 ≡ b / 256 = ap (λ l. get_or l 0 0) c.to_be_bytes.ensures ∙ omega arith in
    let low : get_or bytes 1 0 ≡ b % 256 = ap (λ l. get_or l 1 0) c.to_be_bytes.ensures in
    pushed_two (elements c.loop-block.frame) (elements c.push.new.self) (elements c.push-in-loop-block.new.self) 21 _ _ _ _ room
    c.push.ensures.answer c.push.ensures.after c.push-in-loop-block.ensures.answer c.push-in-loop-block.ensures.after
    ∙ ap (λ r. r ++ get_or bytes 0 0 ∷ get_or bytes 1 0 ∷ []) c.loop-block.invariant
    ∙ ap (λ u. head (wides (take i bs) ++ u ∷ get_or bytes 1 0 ∷ [])) high
    ∙ ap (λ u. head (wides (take i bs) ++ b / 256 ∷ u ∷ [])) low
    ∙ ap head (sym (wides_push (take i bs) b) ∙ ap wides (sym (take_more bs i 0 (omega arith))))
