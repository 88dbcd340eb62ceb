-- The plan is the user's, the hall was opened with it, and the call goes on from there.
use Rattle.std.proofs.Common.{◌≡◌, ap, ◌∙◌, arith}
use Rattle.std.proofs.lemmas.Bool.{le-leb}
use Rattle.std.proofs.lemmas.Grind.{common_steps}
use Rattle.plans.specs.Planned.{model}
use Rattle.plans.specs.Setup.{fresh_plan, with_entries}
use Rattle.client.specs.Mirrored.{mirrored}
use Rattle.client.specs.Labelled.{labelled, labels_alike}
use Rattle.client.proofs.FirstEntry.{entered_first}
use Rattle.client.proofs.tried.first_entry.Goals as goal

pub returns : goal.returns
returns g c =
    let n = c.args.draw.sizes.seats in
    let R = c.args.draw.sizes.rounds in
    let xs = c.args.labels.now in
    let made = rw (le-leb 1 n c.args.draw.sizes.within.some_seat) at c.in_ok-plan.ensures in
    let drawn : model c.in_ok-plan.plan ≡ fresh_plan n R (mirrored n) 0 0 0 = cc in
    let taken : model c.set_entries.new.self ≡ with_entries labels_alike xs (model c.in_ok-plan.plan) = grind (arith, common_steps) in
    let took : model c.set_entries.new.self ≡ labelled n R xs = taken ∙ ap (with_entries labels_alike xs) drawn in
    entered_first _ _ c.open-hall.result c.enter.new.self c.enter.result n R xs took c.open-hall.ensures c.enter.ensures
