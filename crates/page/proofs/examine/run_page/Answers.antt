-- The record is that of the whole submission.
use Rattle.std.proofs.Common.{◌≡◌, List, ℕ, sym, ap, ◌∙◌, subst}
use Rattle.std.proofs.lemmas.List.{take_all}
use Rattle.lines.specs.Reading.{left}
use Rattle.lines.specs.Writing.{Fills}
use Rattle.page.specs.Run.{page}
use Rattle.page.proofs.examine.run_page.Goals as goal

pub returns-in-Err : goal.returns-in-Err
returns-in-Err g c =
    let s = c.args.submission.now in
    let whole : left c.new-reader.result ≡ s = c.new-reader.ensures.all ∙ take_all 65535 s c.requires in
    let filled_by : List ℕ → Type 0 = λ bytes. Fills c.args.out.now bytes c.put_only.new.out c.put_only.result in
    subst filled_by (sym (ap (page c.args.sort) (sym whole) ∙ c.in-Err.ensures)) c.put_only.ensures

pub returns-in-Ok : goal.returns-in-Ok
returns-in-Ok g c =
    let s = c.args.submission.now in
    let whole : left c.new-reader.result ≡ s = c.new-reader.ensures.all ∙ take_all 65535 s c.requires in
    let filled_by : List ℕ → Type 0 = λ bytes. Fills c.args.out.now bytes c.run_hall.new.out c.run_hall.result in
    subst filled_by (sym (ap (page c.args.sort) (sym whole) ∙ c.in-Ok.ensures)) c.run_hall.ensures
