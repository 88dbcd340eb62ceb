-- One call more, and the end of the list.
use mathlib.Core.Path.{◌≡◌, sym, ap, subst, ◌∙◌}
use mathlib.Core.Bool.{Bool}
use mathlib.Core.List.{List, [], ◌∷◌, ◌++◌, append-nil, append_assoc}
use Prim.Native.Nat.{ℕ, ◌+◌, ◌<◌}
use native.Mathlib.Numerals.{add-one}
use lib.ListN.{length, get_or, drop}
use lib.Seq.{drop-cons}
use Rattle.model.specs.Setup.{Plan as Model}
use Rattle.model.specs.World.{World}
use Rattle.model.specs.Checks.{Verdict, verdict}
use Rattle.model.specs.Checks.{Call as Asked}
use Rattle.model.specs.Effects.{after}
use Rattle.model.specs.Journal.{Line, Kept}
use Rattle.model.specs.Journal.Kept.{called}
use Rattle.model.proofs.Law.{law_stands}
use Rattle.model.proofs.Runs.{run_goes_on}
use Rattle.calls.specs.Asked.{asked}
use Rattle.calls.specs.declared.Call.{Call}
use Rattle.plans.specs.Planned.{model}
use Rattle.plans.proofs.Lawfulness.{plan_is_lawful}
use Rattle.hall.specs.Answers.{Called}
use Rattle.hall.specs.Worlds.{world}
use Rattle.hall.specs.declared.hall.Hall.{Hall}
use Rattle.schedules.specs.Ran.{all_asked, state_after, lines_of, Ran}

module _ {B : Type 0} (held : B → ℕ → ℕ → ℕ → Bool) (h₀ h h' : Hall B) where
  -- after one call, what the calls that are left come to stays
  one_more : (x : Call) (xs ys : List Call) (v : Verdict) (s : World) → xs ≡ x ∷ ys → Called held h h' (asked x) v → h.plan ≡ h₀.plan
      → state_after (model h₀.plan) (world held h) (all_asked xs) ≡ s → state_after (model h₀.plan) (world held h') (all_asked ys) ≡ s
  one_more x xs ys v s parts c stays inv =
      let p : Model = model h₀.plan in
      ap (λ (w : World). state_after p w (all_asked ys)) c.left
      ∙ ap (λ (m : Model). state_after p (after m (world held h) (asked x)) (all_asked ys)) (ap model stays)
      ∙ ap (λ (l : List Call). state_after p (world held h) (all_asked l)) (sym parts)
      ∙ inv

  pub one_more_at : (xs : List Call) (i : ℕ) (d : Call) (v : Verdict) (s : World) → i < length xs → Called held h h' (asked (get_or xs i d)) v → h.plan ≡ h₀.plan
      → state_after (model h₀.plan) (world held h) (all_asked (drop i xs)) ≡ s → state_after (model h₀.plan) (world held h') (all_asked (drop (i + 1) xs)) ≡ s
  one_more_at xs i d v s low =
      one_more (get_or xs i d) (drop i xs) (drop (i + 1) xs) v s (drop-cons xs i d low ∙ ap (λ (j : ℕ). get_or xs i d ∷ drop j xs) (sym (add-one i)))

  -- where none are left, the list has run
  pub all_ran : (xs ys : List Call) → ys ≡ [] → h.plan ≡ h₀.plan
      → state_after (model h₀.plan) (world held h) (all_asked ys) ≡ state_after (model h₀.plan) (world held h₀) (all_asked xs) → Ran held h₀ h (all_asked xs)
  all_ran xs ys none stays inv =
      let p : Model = model h₀.plan in
      let left : world held h ≡ state_after p (world held h₀) (all_asked xs) =
      sym (ap (λ (l : List Call). state_after p (world held h) (all_asked l)) none) ∙ inv in
      record {
        plan_stays = stays;
        left = left;
        journal = λ js k.
            subst (λ (m : Model). Kept m (js ++ lines_of p (world held h₀) (all_asked xs)) (world held h)) (sym (ap model stays))
            (subst (λ (w : World). Kept p (js ++ lines_of p (world held h₀) (all_asked xs)) w) (sym left) (run_goes_on p (all_asked xs) js (world held h₀) k));
        promises = law_stands (model h.plan) (plan_is_lawful h.plan);
      }
