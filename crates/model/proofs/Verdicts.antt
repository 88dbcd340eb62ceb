-- Verdicts: an accepted call's checks hold, found by refusal number; a call whose checks hold is accepted; a refused one changes nothing.
use Rattle.std.proofs.Common.{◌≡◌, ℕ, Bool, true, false, cond, eqb, List, [], ◌∷◌, refl, ap}
use Rattle.std.proofs.lemmas.Bool.{cond_both}
use Rattle.model.specs.Setup.{Plan}
use Rattle.model.specs.World.{World}
use Rattle.model.specs.Checks.{Call, Verdict, Check, first_failed, verdict}
use Rattle.model.specs.Checks.Verdict.{accepted, refused}
use Rattle.model.specs.Checks.Check.{must}
use Rattle.model.specs.Effects.{effect, after, is_accepted}
use Rattle.model.proofs.Tests.{not_both}

-- every check of a list holds
abbrev pub AllHold : List Check → Type 0
AllHold [] = Unit {0}
AllHold (must holds _ _ _ _ ∷ cs) = (holds ≡ true) × AllHold cs

holding : (ok : Bool) (k l s x : ℕ) (rest : Verdict) → cond ok rest (refused k l s x) ≡ accepted → (ok ≡ true) × (rest ≡ accepted)
holding true k l s x rest h = (refl, h)
holding false k l s x rest h = not_both false (ap is_accepted h) refl

-- the check with this refusal number
abbrev pub numbered : ℕ → List Check → Bool
numbered n [] = true
numbered n (must holds number _ _ _ ∷ cs) = cond (eqb number n) holds (numbered n cs)

pub each_holds : (cs : List Check) → first_failed cs ≡ accepted → (n : ℕ) → numbered n cs ≡ true
each_holds [] h n = refl
each_holds (must ok k l s x ∷ cs) h n =
    let r = holding ok k l s x (first_failed cs) h in
    cond_both (eqb k n) ok (numbered n cs) (λ y. y ≡ true) (λ _. r.0) (λ _. each_holds cs r.1 n)

-- the checks of a list one after another
infixr 20 ◌then◌
pub ◌then◌ : {A B : Type 0} → A → B → A × B
◌then◌ a b = (a, b)

pub none_failed : (cs : List Check) → AllHold cs → first_failed cs ≡ accepted
none_failed [] h = refl
none_failed (must ok k l s x ∷ cs) h = rw h.0 (none_failed cs h.1)

-- what holds of a state, and of an accepted call's effect on it, holds after any call
pub after_any : (P : World → Type 0) (p : Plan) (w : World) (c : Call) → P w → (verdict p w c ≡ accepted → P (effect p w c)) → P (after p w c)
after_any P p w c old new = go (verdict p w c) refl
  where
    go : (x : Verdict) → verdict p w c ≡ x → P (cond (is_accepted x) (effect p w c) w)
    go accepted e = new e
    go (refused _ _ _ _) e = old
