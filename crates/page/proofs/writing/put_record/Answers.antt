-- The three parts of a record are put one after the other, and fit.
use Rattle.std.proofs.Common.{◌≤◌, map, length, ap, ◌∙◌, subst, List, ℕ, arith, length-take}
use Rattle.basics.specs.Elements.{elements}
use Rattle.plans.specs.Planned.{model}
use Rattle.hall.specs.Worlds.{world}
use Rattle.lines.specs.Writing.{Puts}
use Rattle.records.specs.Frames.{refusal_frame}
use Rattle.page.proofs.RecordLaws.{record_put}
use Rattle.page.proofs.writing.put_record.Goals as goal

pub returns : goal.returns
returns g c =
    let fs = c.args.refusals.now in
    let few : length (elements fs) ≤ 64 = omega (arith, length-take fs.len fs.slots, fs.few) in
    let first : List (List ℕ) → Type 0 = Puts c.new-writer.result c.put_refusals.new.writer in
    let recorded = record_put (model c.args.hall.now.plan) (world g.B.SealView.held c.args.hall.now) (elements fs) c.args.counts
    c.new-writer.result c.put_refusals.new.writer c.put_seats.new.writer c.put_counts.new.writer c.args.out.now
    c.new-writer.ensures.start c.new-writer.ensures.place (omega arith) few (subst first (ap (map refusal_frame) c.as_slice.ensures) c.put_refusals.ensures)
    c.put_seats.ensures.seats c.put_seats.ensures.few c.put_counts.ensures in
    record { is = recorded.is; size = c.place.ensures ∙ recorded.size; fits = recorded.fits }
