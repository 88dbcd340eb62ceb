-- An entry, a call, or neither.
use Rattle.std.proofs.Common.{◌≡◌, ◌+◌, cond, [], ◌∷◌, ◌++◌, map, ap, ◌∙◌}
use Rattle.basics.specs.Elements.{elements}
use Rattle.lines.specs.Reading.{held, line_now}
use Rattle.frames.specs.Frames.{decoded}
use Rattle.page.specs.Refusals.{refusal, also}
use Rattle.page.specs.Reading.{behind}
use Rattle.page.specs.declared.fault.PageFault.TheVariants.{Malformed}
use Rattle.page.specs.Run.{placed, collected, entry_refusals}
use Rattle.page.proofs.LineLaws.{entry_line, closing_line, misplaced_line}
use Rattle.page.proofs.entry_table.fill_entries.Goals as goal

pub loop-line-preserved-in-Entry : goal.loop-line-preserved-in-Entry
loop-line-preserved-in-Entry c p =
    let sort = c.args.sort in
    let x = c.loop-line.reader in
    let y = c.next.new.self in
    let es = elements c.loop-line.entries in
    let fs = elements c.loop-line.refusals in
    let step = c.in-Some.ensures.steps in
    let f = c.decode.ensures ∙ ap decoded c.bytes.ensures in
    entry_line sort p es (line_now x + 1) (line_now y) fs (behind x) (decoded (held c.in-Some.line)) (behind y)
    (collected sort p (elements c.args.entries.now) (line_now c.args.reader.now + 1) (elements c.args.refusals.now) (behind c.args.reader.now))
    (c.loop-line.invariant p) (ap (map decoded) step.line_is) step.counts c.in-Entry.entry (elements c.take_entry.new.entries) (elements c.take_entry.new.refusals)
    (c.in-Entry.ensures ∙ ap (placed sort) f) c.take_entry.ensures.entries (c.take_entry.ensures.refusals ∙ ap (λ i. entry_refusals es i fs) (c.number.ensures ∙ step.last))

pub returns-in-Closes-clause-all : goal.returns-in-Closes-clause-all
returns-in-Closes-clause-all c p =
    let sort = c.args.sort in
    let x = c.loop-line.reader in
    let y = c.next.new.self in
    let step = c.in-Some.ensures.steps in
    let f = c.decode.ensures ∙ ap decoded c.bytes.ensures in
    closing_line sort p (elements c.loop-line.entries) (line_now x + 1) (line_now y) (elements c.loop-line.refusals) (behind x) (decoded (held c.in-Some.line)) (behind y)
    (collected sort p (elements c.args.entries.now) (line_now c.args.reader.now + 1) (elements c.args.refusals.now) (behind c.args.reader.now))
    (c.loop-line.invariant p) (ap (map decoded) step.line_is) step.counts (c.in-Closes.ensures ∙ ap (placed sort) f)

pub loop-line-preserved : goal.loop-line-preserved
loop-line-preserved c p =
    let sort = c.args.sort in
    let x = c.loop-line.reader in
    let y = c.next.new.self in
    let fs = elements c.loop-line.refusals in
    let step = c.in-Some.ensures.steps in
    let f = c.decode.ensures ∙ ap decoded c.bytes.ensures in
    let k = c.number-in-Misplaced.result in
    let listed : elements c.push.new.self ≡ also fs (refusal k Malformed) =
    c.push.ensures.after ∙ ap (λ r. cond c.push.result (fs ++ r ∷ []) fs) c.refused_at.ensures ∙ ap (λ b. cond b (fs ++ refusal k Malformed ∷ []) fs) c.push.ensures.answer in
    misplaced_line sort p (elements c.loop-line.entries) (line_now x + 1) (line_now y) fs (behind x) (decoded (held c.in-Some.line)) (behind y)
    (collected sort p (elements c.args.entries.now) (line_now c.args.reader.now + 1) (elements c.args.refusals.now) (behind c.args.reader.now))
    (c.loop-line.invariant p) (ap (map decoded) step.line_is) step.counts (elements c.push.new.self)
    (c.in-Misplaced.ensures ∙ ap (placed sort) f) (listed ∙ ap (λ i. also fs (refusal i Malformed)) (c.number-in-Misplaced.ensures ∙ step.last))

pub returns-clause-all : goal.returns-clause-all
returns-clause-all c p =
    let none = ap (map decoded) c.in_default.ensures.steps.line_is in
    c.loop-line.invariant p
    ∙ ap (collected c.args.sort p (elements c.loop-line.entries) (line_now c.loop-line.reader + 1) (elements c.loop-line.refusals)) none
