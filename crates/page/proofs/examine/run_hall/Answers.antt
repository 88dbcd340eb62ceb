-- The hall is opened with the plan of the first lines and the entries, and its record is that of the lines that are left.
use Rattle.std.proofs.Common.{◌≡◌, ◌+◌, ◌≤◌, cond, [], length, sym, ap, ◌∙◌, subst, List, ℕ, arith, length-take}
use Rattle.std.proofs.lemmas.Bool.{le-leb}
use Rattle.basics.specs.Elements.{elements}
use Rattle.model.specs.Effects.{opening}
use Rattle.model.specs.Setup.{Plan as Model}
use Rattle.model.specs.World.{World}
use Rattle.hall.specs.Worlds.{world}
use Rattle.hall.specs.declared.hall.Hall.{Hall}
use Rattle.plans.specs.Planned.{model}
use Rattle.plans.specs.Setup.{with_entries}
use Rattle.lines.specs.Writing.{Fills}
use Rattle.lines.specs.Reading.{line_now}
use Rattle.page.specs.Alike.{entries_alike}
use Rattle.page.specs.Reading.{behind, coming}
use Rattle.page.specs.Record.{recorded}
use Rattle.page.specs.Calls.{called, no_counts}
use Rattle.page.specs.Run.{collected}
use Rattle.page.proofs.examine.run_hall.Goals as goal

pub returns : goal.returns
returns g c =
    let sort = c.args.sort in
    let p = model c.args.planned in
    let x = c.args.reader.now in
    let filled = c.fill_entries-at_hand in
    let y = filled.new.reader in
    let table = filled.new.entries in
    let es = elements table in
    let fs = elements filled.new.refusals in
    let plan : Hall g.row.B.Denot → Model = λ x. model x.plan in
    let state : Hall g.row.B.Denot → World = world g.B.SealView.held in
    let before = c.open-hall.result in
    let ran = c.run_calls-counts in
    let after = ran.new.hall in
    let n = ran.result in
    let q = with_entries entries_alike es p in
    let slice = c.as_slice.result.now in
    let few : length slice ≤ 128 = omega (arith, ap length c.as_slice.ensures, length-take table.len table.slots, table.few) in
    let taken : model c.set_entries.new.self ≡ q =
    c.set_entries.ensures.plan ∙ ap (λ b. cond b (with_entries entries_alike slice p) p) (le-leb (length slice) 128 few) ∙ ap (λ s. with_entries entries_alike s p) c.as_slice.ensures in
    let plan_is : plan before ≡ q = ap model c.open-hall.ensures.plan_taken ∙ taken in
    let world_is : state before ≡ opening q = c.open-hall.ensures.state ∙ ap opening taken in
    let all : recorded (plan after) (state after) (elements ran.new.refusals) n ≡ collected sort p [] (line_now x + 1) [] (behind x) =
    ap (λ r. recorded r (state after) (elements ran.new.refusals) n) ran.ensures.plan
    ∙ ran.ensures.all
    ∙ ap (λ r. called r (state before) (line_now y) fs no_counts (coming filled.result y)) plan_is
    ∙ ap (λ r. called q r (line_now y) fs no_counts (coming filled.result y)) world_is
    ∙ sym (filled.ensures.all p)
    ∙ ap (λ r. collected sort p r (line_now x + 1) (elements c.empty-refusals.result) (behind x)) c.from_array-entries.ensures
    ∙ ap (λ r. collected sort p [] (line_now x + 1) r (behind x)) c.empty-refusals.ensures in
    let filled_by : List ℕ → Type 0 = λ bytes. Fills c.args.out.now bytes c.put_record.new.out c.put_record.result in
    subst filled_by all c.put_record.ensures
