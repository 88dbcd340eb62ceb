use Rattle.std.proofs.Common.{sym, ap, ◌∙◌}
use Rattle.model.specs.World.{exists}
use Rattle.messages.specs.Meaning.{means}
use Rattle.plans.specs.Planned.{model}
use Rattle.hall.specs.Worlds.{world}
use Rattle.hall.proofs.hall.Hall.exists.Goals as goal

pub returns-in-Finalization : goal.returns-in-Finalization
returns-in-Finalization g c =
    let h = c.args.self.now in
    c.quorum_sealed-in-Finalization.ensures ∙ ap (λ m. exists (model h.plan) (world g.B.SealView.held h) (means m)) (sym c.in-Finalization.is)
