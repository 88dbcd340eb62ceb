use Rattle.std.proofs.Common.{◌≡◌, cond, [], sym, refl, ap, ◌∙◌, subst, arith}
use Rattle.model.specs.Setup.{honest}
use Rattle.model.specs.World.{World}
use Rattle.model.specs.Effects.{opening}
use Rattle.model.specs.Journal.{Kept}
use Rattle.model.specs.Journal.Kept.{opened}
use Rattle.model.proofs.Law.{law_stands}
use Rattle.messages.specs.Stored.{stored}
use Rattle.plans.specs.declared.plan.Plan.{Plan}
use Rattle.plans.specs.Planned.{model}
use Rattle.plans.proofs.Lawfulness.{plan_is_lawful}
use Rattle.tree.specs.Blocks.{mades, parents, payloads}
use Rattle.hall.specs.Worlds.{world}
use Rattle.hall.specs.Steps.{sharing}
use Rattle.hall.proofs.Openings.{opening_below, opening_none, opening_next}
use Rattle.hall.proofs.hall.Hall.open.Goals as goal

pub loop-seat-init : goal.loop-seat-init
loop-seat-init g c =
    let t = c.new.result in (
      refl,
      opening_none (model c.args.plan) (mades t) (parents t) (payloads t) (g.B.SealView.held c.clear.new.self) c.fresh-seats.result (stored c.empty.result)
          c.new.ensures.made c.new.ensures.parent c.new.ensures.places c.clear.ensures c.fresh-seats.ensures.seat c.fresh-seats.ensures.pool c.empty.ensures,
    )

pub loop-seat-preserved : goal.loop-seat-preserved
loop-seat-preserved g c =
    let p = model c.args.plan in
    let i = c.loop-seat.seat in
    let inv = c.loop-seat.invariant in (
      c.share_first_beacon.ensures.plan ∙ inv.0,
      c.share_first_beacon.ensures.world
          ∙ ap (λ (x : Plan). cond (honest (model x) i) (sharing i (world g.B.SealView.held c.loop-seat.hall)) (world g.B.SealView.held c.loop-seat.hall)) inv.0
          ∙ ap (λ (w : World). cond (honest p i) (sharing i w) w) inv.1
          ∙ opening_next p i,
    )

pub returns : goal.returns
returns g c =
    let x = c.args.plan in
    let p = model x in
    let inv = c.loop-seat.invariant in
    let e : c.loop-seat.seat ≡ p.n = omega (arith, c.seats-count.ensures.is) in
    let open' : world g.B.SealView.held c.loop-seat.hall ≡ opening p = inv.1 ∙ ap (opening_below p) e in
    record {
      plan_taken = inv.0;
      state = open';
      journal = subst (λ (w : World). Kept p [] w) (sym open') opened;
      promises = law_stands p (plan_is_lawful x);
    }
