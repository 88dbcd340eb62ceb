use Rattle.std.proofs.Common.{◌≡◌, ℕ, Bool, true, ◌&&◌, Some, sym, ap, ◌∙◌, refl, arith}
use Rattle.std.specs.List.{slice_get}
use Rattle.std.proofs.lemmas.Bool.{le-ltb}
use Rattle.basics.specs.Bit.{bit}
use Rattle.basics.specs.Put.{put}
use Rattle.basics.proofs.BitLaws.{bit_none, put_inside, put_here, put_there}
use Rattle.plans.specs.Setup.{both_alike}
use Rattle.plans.proofs.Likeness.{alike_there, row_next}
use Rattle.plans.proofs.plan.tables.likeness_row.Goals as goal
use Rattle.plans.proofs.plan.tables.likeness_row.Goals.{then-is_like, else-is_like}

pub loop-j-init : goal.loop-j-init
loop-j-init g c k = bit_none k ∙ sym (ap (λ b. b && both_alike g.E.Entry.alike (Some c.args.entry.now) (slice_get c.args.entries.now k)) (le-ltb k 0 (omega arith)))

pub loop-j-preserved : goal.loop-j-preserved
loop-j-preserved g c k =
    let xs = c.args.entries.now in
    let j = c.loop-j.j in
    let m = bit c.loop-j.likes in
    let P : ℕ → Bool = λ i. both_alike g.E.Entry.alike (Some c.args.entry.now) (slice_get xs i) in
    let here : P j ≡ c.is_like.result = alike_there g.E.Entry.alike xs c.args.entry.now c.index-entries-j.result j c.loop-j-test.true c.index-entries-j.is ∙ sym c.is_like.ensures in
    elim c.if-is_like.branch [
      | then-is_like w ↦
          (let more : bit c.if-is_like.likes ≡ put j true m = ap bit w.likes-is ∙ w.with-likes.ensures ∙ put_inside 128 j true m (omega (arith, c.requires, c.loop-j-test.true)) in
          row_next m (bit c.if-is_like.likes) P j c.loop-j.invariant
          (ap (λ f. f j) more ∙ put_here j true m j refl ∙ sym (here ∙ w.if-is_like.true)) (λ i ne. ap (λ f. f i) more ∙ put_there j true m i ne) k)
      | else-is_like w ↦
          (let same : bit c.if-is_like.likes ≡ m = ap bit w.likes-is in
          row_next m (bit c.if-is_like.likes) P j c.loop-j.invariant
          (ap (λ f. f j) same ∙ c.loop-j.invariant j ∙ ap (λ b. b && P j) (le-ltb j j (omega arith)) ∙ sym (here ∙ w.if-is_like.false)) (λ i ne. ap (λ f. f i) same) k)
    ]
