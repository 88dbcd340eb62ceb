-- The closed runs come out as stated: the plan is lawful, every run is a complete journal's, and the rest is computed.
use Rattle.std.proofs.Common.{◌≡◌, ℕ, zero, suc, ◌<◌, true, false, List, [], ◌∷◌, ◌++◌, sym, refl, subst, append_assoc, append-nil, arith}
use Rattle.std.proofs.lemmas.Bool.{eqb-true, eq-eqb}
use Rattle.model.specs.Setup.{Plan, Lawful, honest}
use Rattle.model.specs.World.{World}
use Rattle.model.specs.World.Phase.{done}
use Rattle.model.specs.Checks.{Call, verdict}
use Rattle.model.specs.Effects.{after, effect, opening}
use Rattle.model.specs.Journal.{Line, Kept}
use Rattle.model.specs.Journal.Kept.{opened, called}
use Rattle.model.specs.Runs.{ClosedRuns, run_by, lines_by, run, journal, four, split_to_the_end}
use Rattle.model.proofs.Tests.{not_both}

four_lawful : Lawful four
four_lawful = record {
  faults = omega arith;
  few = omega arith;
  some_round = omega arith;
  rank_below = λ k s h. omega arith;
  rank_once = λ k s s' h h' e. omega arith;
  like_self = λ x h. eq-eqb x x refl;
  like_back = λ x y h h' e. eq-eqb y x (omega (arith, eqb-true x y e));
}

module _ (p : Plan) where
  pub run_goes_on : (cs : List Call) (js : List Line) (w : World) → Kept p js w →
      Kept p (js ++ lines_by (verdict p) (effect p) w cs) (run_by (verdict p) (effect p) w cs)
  run_goes_on [] js w k = subst (λ ls. Kept p ls w) (sym (append-nil js)) k
  run_goes_on (c ∷ cs) js w k =
      subst (λ ls. Kept p ls (run_by (verdict p) (effect p) (after p w c) cs)) (append_assoc js _ _)
      (run_goes_on cs (js ++ (record { call = c; answer = verdict p w c } ∷ [])) (after p w c) (called k c))

  runs_are_journaled : (cs : List Call) → Kept p (journal p cs) (run p cs)
  runs_are_journaled cs = run_goes_on cs [] (opening p) opened

-- what holds of the seats 0, 1 and 2 holds of the honest ones
honest_of_four : (P : ℕ → Type 0) → P 0 → P 1 → P 2 → (s : ℕ) → s < 4 → honest four s ≡ true → P s
honest_of_four P a b c zero l h = a
honest_of_four P a b c (suc zero) l h = b
honest_of_four P a b c (suc (suc zero)) l h = c
honest_of_four P a b c (suc (suc (suc zero))) l h = not_both false h refl
honest_of_four P a b c (suc (suc (suc (suc s)))) l h = absurd (omega arith)

pub closed_runs : ClosedRuns
closed_runs = record {
  plan_lawful = four_lawful;
  runs_are_journaled = runs_are_journaled;
  nine_sorts = refl;
  nine_sorts_accepted = refl;
  one_committed = refl;
  entry_committed = refl;
  two_rounds_accepted = refl;
  two_committed_at_once = refl;
  proposal_too_early = refl;
  echo_too_early = refl;
  echo_in_time = refl;
  disqualifying_accepted = refl;
  rank_disqualified = refl;
  second_passed_on = refl;
  second_not_sealed = refl;
  next_rank_accepted = refl;
  better_named = refl;
  split_accepted = refl;
  one_sealed_here = refl;
  other_sealed_there = refl;
  one_lacks_seals = refl;
  other_lacks_seals = refl;
  split_all_done = honest_of_four (λ s. ((run four split_to_the_end).seat s).phase ≡ done) refl refl refl;
  split_one_catalogue = honest_of_four (λ s. ((run four split_to_the_end).seat s).catalogue ≡ 7 ∷ 19 ∷ []) refl refl refl;
}
