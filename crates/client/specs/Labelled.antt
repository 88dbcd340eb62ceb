-- Which labels are alike, and the plan that labels and the mirror make.
use Rattle.std.specs.Prelude.{ℕ, ◌/◌, Bool, List, ◌==◌}
use Rattle.model.specs.Setup.{Plan as Model}
use Rattle.plans.specs.Setup.{fresh_plan, with_entries}
use Rattle.client.specs.Mirrored.{mirrored}
use Rattle.client.specs.declared.label.Label.{Label}

-- the numbers are of the same hundred
abbrev pub labels_alike : Label → Label → Bool
labels_alike x y = x.number / 100 == y.number / 100

-- n honest seats over some rounds, ranked by the mirror, without delays, with these labels
abbrev pub labelled : ℕ → ℕ → List Label → Model
labelled n rounds xs = with_entries labels_alike xs (fresh_plan n rounds (mirrored n) 0 0 0)
