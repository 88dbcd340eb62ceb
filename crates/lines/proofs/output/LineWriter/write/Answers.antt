-- Two characters more to a byte, and the line feed.
use Rattle.std.proofs.Common.{◌≡◌, ◌+◌, ◌*◌, ◌/◌, [], ◌∷◌, ◌++◌, length, get_or, take, set, sym, ap, ◌∙◌, arith}
use Rattle.std.proofs.lemmas.List.{take_more, take_all, length-take-le}
use Rattle.lines.specs.Output.{numeral, hexed, written}
use Rattle.lines.specs.Writing.{buffer_of, place_of}
use Rattle.lines.proofs.OutputLaws.{hexed_push, length_hexed, written_push, written_two}
use Rattle.lines.proofs.output.LineWriter.write.Goals as goal

pub loop-b-preserved : goal.loop-b-preserved
loop-b-preserved c =
    let w = c.args.self.now in
    let xs = buffer_of w in
    let at = place_of w in
    let f = c.args.bytes.now in
    let i = c.loop-b.b-index in
    let b = get_or f i 0 in
    let k = place_of c.loop-b.self in
    let ys = hexed (take i f) in
    let u = c.numeral.result in
    let v = c.numeral-in-loop-b.result in
    let len : length ys ≡ 2 * i = omega (arith, length_hexed (take i f), length-take-le i f (omega arith)) in
    record {
      buffer = c.push-in-loop-b.ensures.buffer ∙ ap (λ o. set o (place_of c.push.new.self) v) c.push.ensures.buffer
          ∙ ap (λ j. set (set (buffer_of c.loop-b.self) k u) j v) c.push.ensures.next
          ∙ ap (λ o. set (set o k u) (k + 1) v) c.loop-b.invariant.buffer
          ∙ written_two xs at ys u v k (omega arith) (omega arith)
          ∙ ap (λ p. written xs at (ys ++ p ∷ v ∷ [])) c.numeral.ensures ∙ ap (λ p. written xs at (ys ++ numeral (b / 16) ∷ p ∷ [])) c.numeral-in-loop-b.ensures
          ∙ ap (written xs at) (sym (hexed_push (take i f) b) ∙ ap hexed (sym (take_more f i 0 (omega arith))));
      next = omega arith;
      same = c.push-in-loop-b.ensures.same ∙ c.push.ensures.same ∙ c.loop-b.invariant.same;
    }

pub returns-clause-buffer : goal.returns-clause-buffer
returns-clause-buffer c =
    let w = c.args.self.now in
    let xs = buffer_of w in
    let at = place_of w in
    let f = c.args.bytes.now in
    let whole = ap hexed (take_all c.loop-b.b-index f (omega arith)) in
    let end : place_of c.loop-b.self ≡ at + length (hexed f) = omega (arith, length_hexed f) in
    c.push-2.ensures.buffer
    ∙ ap (λ o. set o (place_of c.loop-b.self) 10) (c.loop-b.invariant.buffer ∙ ap (written xs at) whole)
    ∙ ap (λ k. set (written xs at (hexed f)) k 10) end
    ∙ written_push xs at (hexed f) 10 (omega (arith, c.requires, length_hexed f))
