-- Each turn reads a pair; the loop ends where none is left, or no room for it.
use Rattle.std.proofs.Common.{rules, ◌≡◌, ◌+◌, ◌-◌, ◌*◌, ◌++◌, length, take, drop, min, slice_set, sym, ap, ◌∙◌, arith, length-drop, length-take, length-set, drop-drop}
use Rattle.std.proofs.lemmas.List.{take_all, take_more_set}
use Rattle.lines.specs.Lines.{leading_bytes}
use Rattle.lines.proofs.PairLaws.{one_read, no_more, no_room, no_pair_here}
use Rattle.lines.proofs.reader.read_pairs.Goals.{else-loop-count-test, then-loop-count-test+then-behind-lt2, then-loop-count-test+in-len2-up+in-None-1}
use Rattle.lines.proofs.reader.read_pairs.Goals as goal

pub loop-count-preserved : goal.loop-count-preserved
loop-count-preserved c =
    let s = c.loop-count.behind.now in
    let text = c.args.text.now in
    let n = c.loop-count.count in
    let bs = take n c.loop-count.slots in
    let b = c.in-Some.byte in
    let inv = c.loop-count.invariant in
    let behind : take (length s - 2) (drop 2 s) ≡ drop 2 s = take_all (length s - 2) (drop 2 s) (omega (arith, length-drop 2 s)) in
    let put = take_more_set c.loop-count.slots n b (omega (arith, inv.room, c.loop-count-test.true)) in
    let twice : 2 * n + 2 ≡ 2 * (n + 1) = omega arith in
    record {
      read = one_read (leading_bytes 16 text) bs s (16 - n) inv.read b (16 - (n + 1)) (omega (arith, c.loop-count-test.true)) c.in-len2-up.len_at_least (sym c.pair.ensures ∙ c.in-Some.is)
          ∙ ap (λ l. l ++ leading_bytes (16 - (n + 1)) (drop 2 s)) (sym put)
          ∙ ap (λ r. take (n + 1) (slice_set c.loop-count.slots n b) ++ leading_bytes (16 - (n + 1)) r) (sym behind);
      rest = behind ∙ ap (drop 2) inv.rest ∙ drop-drop 2 (2 * n) text ∙ ap (λ i. drop i text) twice;
      few = omega (arith, c.loop-count-test.true);
      room = length-set c.loop-count.slots n b ∙ inv.room;
    }

pub returns-clause-bytes : goal.returns-clause-bytes
returns-clause-bytes c =
    let n = c.loop-count.count in
    let bs = take n c.loop-count.slots in
    let s = c.loop-count.behind.now in
    let k = 16 - n in
    let inv = c.loop-count.invariant in
    let all : min n 16 ≡ n = omega (arith, inv.few) in
    let done : bs ≡ leading_bytes 16 c.args.text.now =
    elim c.loop-count-test.branch [
      | else-loop-count-test w ↦ no_more _ bs s k inv.read (omega (arith, w.loop-count-test.false))
      | then-loop-count-test+then-behind-lt2 w ↦ no_room _ bs s k inv.read (search rules)
      | then-loop-count-test+in-len2-up+in-None-1 w ↦ no_pair_here _ bs s k inv.read w.in-len2-up.len_at_least cc
    ] in
    c.from_array.ensures ∙ ap (λ i. take i c.loop-count.slots) all ∙ done

pub returns-clause-behind : goal.returns-clause-behind
returns-clause-behind c =
    let n = c.loop-count.count in
    let bytes : take n c.loop-count.slots ≡ leading_bytes 16 c.args.text.now = ap (λ i. take i c.loop-count.slots) (let all : n ≡ min n 16 = omega (arith, c.loop-count.invariant.few) in all) ∙ sym c.from_array.ensures ∙ returns-clause-bytes c in
    let long : n ≡ length (leading_bytes 16 c.args.text.now) = omega (arith, ap length bytes, length-take n c.loop-count.slots, c.loop-count.invariant.few, c.loop-count.invariant.room) in
    c.loop-count.invariant.rest ∙ ap (λ l. drop (2 * l) c.args.text.now) long
