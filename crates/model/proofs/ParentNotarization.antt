-- A parent's notarization as a call broadcasts it: not where the parent is the root.
use Rattle.std.proofs.Common.{◌≡◌, ℕ, true, eqb, ◌⊎◌, [], inl, inr}
use Rattle.std.proofs.lemmas.Bool.{cond_both, cases_eq, eqb-false, ne_eqb}
use Rattle.model.specs.World.{Message, notarization, has}
use Rattle.model.specs.Effects.{parent_notarization}
use Rattle.model.proofs.Tests.{Each, has_first}

pub parent_notarization_each : (P : Message → Type 0) (par : ℕ) → ((par ≡ 0 → ⊥) → P (notarization par)) → Each P (parent_notarization par)
parent_notarization_each P par there = cond_both (eqb par 0) [] _ (Each P) (λ _. tt) (λ e. (there (eqb-false par 0 e), tt))

pub parent_notarization_has : (par : ℕ) → (par ≡ 0) ⊎ (has (parent_notarization par) (notarization par) ≡ true)
parent_notarization_has par = elim (cases_eq par 0) [ inl e ↦ inl e | inr d ↦ inr (rw (ne_eqb par 0 d) (has_first (notarization par) [])) ]
