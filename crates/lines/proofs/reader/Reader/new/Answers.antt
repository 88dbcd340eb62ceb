-- The text, cut where it is too long.
use Rattle.std.proofs.Common.{◌≡◌, ◌<◌, length, take, sym, ap, ◌∙◌, ⊎_elim, arith}
use Rattle.std.proofs.lemmas.List.{take_all}
use Rattle.std.proofs.lemmas.Bool.{cases_lt}
use Rattle.lines.proofs.reader.Reader.new.Goals as goal

pub returns-clause-all : goal.returns-clause-all
returns-clause-all c =
    let text = c.args.text.now in
    let k = c.min-size.result in
    ⊎_elim
    (λ (h : 65535 < length text). let e : k ≡ 65535 = omega arith in ap (λ j. take j text) e)
    (λ h. let e : k ≡ length text = omega arith in ap (λ j. take j text) e ∙ take_all (length text) text (omega arith) ∙ sym (take_all 65535 text h)) (cases_lt 65535 (length text))
