-- A block that is echoed or finished is of a round, and so is not the root.
use Rattle.std.proofs.Common.{◌≡◌, ℕ, ◌≤◌, Bool, true, false, cond, eqb, sym, refl, ap, ◌∙◌, ⊎_elim, arith}
use Rattle.std.proofs.lemmas.Bool.{eqb-true, cases_eq}
use Rattle.model.specs.Setup.{round_of}
use Rattle.model.specs.Setup.{Plan as Model}
use Rattle.model.specs.Checks.{Verdict, is_in_round}
use Rattle.model.specs.Checks.Call.{echo, finish}
use Rattle.model.specs.Checks.Verdict.{accepted, refused}
use Rattle.model.specs.Effects.{is_accepted}
use Rattle.tree.specs.declared.tree.Tree.{Tree}
use Rattle.seats.specs.declared.seat.Seat.{Seat}
use Rattle.seats.specs.Seated.{stage}
use Rattle.seats.specs.Desk.{bare_desk, verdict_past}

module _ (p : Model) (t : Tree) (x : Seat) (s : ℕ) where
  second : (a b : Bool) (v : Verdict) (y : ℕ) → accepted ≡ cond a (cond b v (refused 17 4 s y)) (refused 12 4 s y) → b ≡ true
  second true true v y e = refl
  second true false v y e = sym (ap is_accepted e)
  second false true v y e = refl
  second false false v y e = sym (ap is_accepted e)

  at_round : (b : ℕ) → eqb (round_of p b) x.progress.round.value ≡ true → 1 ≤ b
  at_round b at =
      let same = eqb-true (round_of p b) x.progress.round.value at in
      ⊎_elim
      (λ (z : b ≡ 0). let r : 0 ≡ x.progress.round.value = sym (ap (round_of p) z) ∙ same in absurd (omega (arith, x.progress.round.first)))
      (λ (ne : b ≡ 0 → ⊥). omega arith)
      (cases_eq b 0)

  pub echo_not_root : (b : ℕ) → accepted ≡ verdict_past 3 p (bare_desk t x) (echo s b) → 1 ≤ b
  echo_not_root b e = at_round b (second (is_in_round (stage x.progress.phase)) (eqb (round_of p b) x.progress.round.value) _ b e)

  pub finish_not_root : (b : ℕ) → accepted ≡ verdict_past 3 p (bare_desk t x) (finish s b) → 1 ≤ b
  finish_not_root b e = at_round b (second (is_in_round (stage x.progress.phase)) (eqb (round_of p b) x.progress.round.value) _ b e)
