-- An honest seat's line is put; a corrupt seat has none.
use Rattle.std.proofs.Common.{◌≡◌, ◌<◌, length, sym, ap, subst, ℕ, arith}
use Rattle.plans.specs.Planned.{model}
use Rattle.hall.specs.Worlds.{world}
use Rattle.lines.specs.Output.{text}
use Rattle.lines.specs.Writing.{Puts}
use Rattle.lines.specs.declared.output.LineWriter.{LineWriter}
use Rattle.records.specs.Frames.{report_frames}
use Rattle.page.specs.Record.{seat_frames}
use Rattle.page.proofs.RecordLaws.{puts_corrupt, puts_honest, long_corrupt, long_honest}
use Rattle.page.proofs.writing.put_seats.Goals.{in-Some, in_default}
use Rattle.page.proofs.writing.put_seats.Goals as goal

pub loop-seat-preserved : goal.loop-seat-preserved
loop-seat-preserved g c =
    let p = model c.args.hall.now.plan in
    let w = world g.B.SealView.held c.args.hall.now in
    let s = c.loop-seat.seat in
    let x = c.args.writer.now in
    let y = c.loop-seat.writer in
    let inv = c.loop-seat.invariant in
    let low : s < p.n = omega (arith, c.seat_count-seat-end.ensures.is) in
    elim c.match-standing.branch [
      | in-Some n ↦
          let stands = n.in-Some.ensures in
          let true_of = n.report.ensures (w.seat s) stands.1 in
          let to : LineWriter → Type 0 = λ v. Puts y v (report_frames s n.report.result) in
          record {
            put = puts_honest p w s low x y c.match-standing.writer inv.put stands.0 n.report.result true_of (subst to (sym n.writer-is) n.put_seat.ensures);
            few = long_honest p w s low x y c.match-standing.writer inv.put stands.0 n.report.result true_of inv.few;
          }
      | in_default n ↦ record {
        put = puts_corrupt p w s low x y c.match-standing.writer inv.put n.in_default.ensures n.writer-is;
        few = long_corrupt p w s low x y c.match-standing.writer inv.put n.in_default.ensures inv.few;
      }
    ]

pub returns : goal.returns
returns g c =
    let p = model c.args.hall.now.plan in
    let w = world g.B.SealView.held c.args.hall.now in
    let end : c.loop-seat.seat ≡ p.n = omega (arith, c.seat_count-seat-end.ensures.is) in
    let put : ℕ → Type 0 = λ k. Puts c.args.writer.now c.loop-seat.writer (seat_frames p w k) in
    record {
      seats = subst put end c.loop-seat.invariant.put;
      few = omega (arith, ap (λ k. length (text (seat_frames p w k))) end, c.loop-seat.invariant.few, c.seat_count-seat-end.ensures.few);
    }
