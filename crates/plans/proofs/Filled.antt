-- What an array holds that is filled by calls of one function.
use Rattle.std.proofs.Common.{◌≡◌, ℕ, zero, suc, ◌+◌, ◌<◌, ◌≤◌, List, get_or, sym, refl, subst, ⊎_elim, arith}
use Rattle.std.proofs.lemmas.Bool.{cases_eq}
use Rattle.std.specs.Array.{IsFromFnResult, IsFromFnResultFrom}
use denote.Param.Members.{Mut, Called}

-- where each call leaves the function as it was and has an answer of which P holds, P holds of every place
module _ {F B : Type 0} (P : ℕ → B → Type 0) (ys : List B) where
  filled_from : (g : Mut F (ℕ × Unit {0}) B) (f p : F) → ((i : ℕ) (y : B) (q : F) → Called g f (i, tt) y q → (q ≡ f) × P i y) → p ≡ f
      → (i n : ℕ) → IsFromFnResultFrom g p ys i n → (k : ℕ) (d : B) → i ≤ k → k < i + n → P k (get_or ys k d)
  filled_from g f p gives e i zero made k d low high = absurd (omega arith)
  filled_from g f p gives e i (suc n) made k d low high =
      let q = made.0 in
      let y = made.1 in
      let here = gives i y q (subst (λ (h : F). Called g h (i, tt) y q) e made.3) in
      ⊎_elim
      (λ (same : i ≡ k). subst (λ (j : ℕ). P j (get_or ys j d)) same (subst (P i) (sym (made.2.1 d)) here.1))
      (λ (other : i ≡ k → ⊥). filled_from g f q gives here.0 (i + 1) n made.4 k d (omega arith) (omega arith))
      (cases_eq i k)

  pub filled : {g : Mut F (ℕ × Unit {0}) B} {f : F} {n : ℕ} → IsFromFnResult g f ys n
      → ((i : ℕ) (y : B) (q : F) → Called g f (i, tt) y q → (q ≡ f) × P i y) → (k : ℕ) (d : B) → k < n → P k (get_or ys k d)
  filled {g} {f} {n} made gives k d low = filled_from g f f gives refl 0 n made.each k d (omega arith) (omega arith)
