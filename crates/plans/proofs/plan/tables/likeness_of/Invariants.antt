use Rattle.std.proofs.Common.{◌≡◌, ℕ, ◌<◌, length, get_or}
use Rattle.basics.specs.Bit.{bit}
use Rattle.plans.specs.Setup.{places_alike}
use Rattle.plans.proofs.plan.tables.likeness_of.Given as goal

abbrev pub invariant-loop-i : goal.invariant-loop-i
invariant-loop-i g l = (length l.likeness ≡ 128) × ((i : ℕ) → i < l.i → (j : ℕ) → j < length l.entries →
    bit (get_or l.likeness i 0) j ≡ places_alike g.E.Entry.alike l.entries i j)
