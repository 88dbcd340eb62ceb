use Rattle.std.proofs.Common.{◌≡◌, ℕ, ◌&&◌, ltb, Some}
use Rattle.std.specs.List.{slice_get}
use Rattle.basics.specs.Bit.{bit}
use Rattle.plans.specs.Setup.{both_alike}
use Rattle.plans.proofs.plan.tables.likeness_row.Given as goal

abbrev pub invariant-loop-j : goal.invariant-loop-j
invariant-loop-j g l = (k : ℕ) → bit l.likes k ≡ (ltb k l.j && both_alike g.E.Entry.alike (Some l.entry) (slice_get l.entries k))
