-- What a chain of iterators over the numbers below a bound answers.
use Rattle.std.proofs.Common.{◌≡◌, ℕ, ◌+◌, ◌<◌, ◌≤◌, Bool, true, false, Option, Some, None, sym, refl, ap, ◌∙◌, subst, arith}
use Rattle.std.specs.Bool.{MatchBool, IsTrue, ⊤}
use Rattle.std.specs.Option.{option_map, MatchOption, IsSomeAnd}
use Rattle.std.specs.Iterator.Runs.{Run, AllItemsGive, AnyItemGives, IsFirstToGive, CallKeepsClosure}
use Rattle.std.specs.declared.ops.Range.{Range}
use Rattle.std.proofs.iter.Yields.{nat_range_steps}
use Rattle.std.proofs.iter.runs.Sources.{range_runs}
use denote.Param.Members.{Mut, Called}
use Rattle.basics.specs.Count.{some_below}
use Rattle.model.proofs.Searches.{find, no_below}
use Rattle.model.proofs.Tests.{not_both}

same_option : (o : Option ℕ) → option_map (λ y. y) o ≡ o
same_option None = refl
same_option (Some x) = refl

module _ (p : Run nat_range_steps) (n : ℕ) (is : p.from ≡ record { start = 0; end = n }) where
  starts : p.from.start ≡ 0
  starts = ap (λ (r : Range ℕ). r.start) is

  ends : p.from.end ≡ n
  ends = ap (λ (r : Range ℕ). r.end) is

  -- the item at each place is the place
  pub at_place : (k : ℕ) → k < p.len → p.at k ≡ Some k
  at_place k low =
      let e : p.from.start + k ≡ k = omega (arith, starts) in
      sym (same_option (p.at k)) ∙ (range_runs p p.seen).3 k low ∙ ap Some e

  pub short : p.len ≤ n
  short = omega (arith, (range_runs p p.seen).0, starts, ends)

  pub long : IsTrue p.whole → p.len ≡ n
  long w = omega (arith, (range_runs p p.seen).1 w, starts, ends)

  module _ {F : Type 0} (g : Mut F (ℕ × Unit {0}) Bool) (f : F) (keeps : CallKeepsClosure g f) (test : ℕ → Bool)
      (computes : (x : ℕ) (b : Bool) → x < n → Called g f (x, tt) b f → b ≡ test x) where
    -- `any`, where the closure computes a test
    pub any_below : (r : Bool) → MatchBool r (AnyItemGives p g f true) (IsTrue p.whole × AllItemsGive p g f false) → r ≡ some_below test n
    any_below true h =
        let w = h keeps in
        let low : w.0 < n = omega (arith, w.1, short) in
        let gave : Called g f (w.0, tt) true f = subst (λ o. IsSomeAnd o (λ x. Called g f (x, tt) true f)) (at_place w.0 w.1) w.2 in
        sym (find test n w.0 low (sym (computes w.0 true low gave)))
    any_below false h =
        let each = h.1 keeps in
        sym (no_below test n (λ k low y.
        let gave : Called g f (k, tt) false f = subst (λ o. MatchOption o ⊤ (λ x. Called g f (x, tt) false f)) (at_place k (omega (arith, long h.0))) (each k) in
        not_both (test k) y (sym (computes k false low gave))))

  module _ {F B : Type 0} (g : Mut F (ℕ × Unit {0}) (Option B)) (f : F) (keeps : CallKeepsClosure g f) (value : Option B → Option ℕ) (give : ℕ → Option ℕ)
      (computes : (x : ℕ) (o : Option B) → x < n → Called g f (x, tt) o f → value o ≡ give x) where
    -- `find_map`, where the closure computes what to give
    pub first_given : (r : Option B)
        → MatchOption r (IsTrue p.whole × AllItemsGive p g f None) (λ y. (i : ℕ) × (i < p.len) × (p.len ≡ i + 1) × IsFirstToGive p g f (Some y) None i)
        → MatchOption r ((k : ℕ) → k < n → value None ≡ give k) (λ y. (i : ℕ) × (i < n) × (value (Some y) ≡ give i) × ((k : ℕ) → k < i → value None ≡ give k))
    first_given None h = λ k low. computes k None low (subst (λ o. MatchOption o ⊤ (λ x. Called g f (x, tt) None f)) (at_place k (omega (arith, long h.0))) (h.1 keeps k))
    first_given (Some y) h =
        let i = h.0 in
        let w = h.3 keeps in
        let low : i < n = omega (arith, h.1, short) in (
          i,
          low,
          computes i (Some y) low (subst (λ o. IsSomeAnd o (λ x. Called g f (x, tt) (Some y) f)) (at_place i h.1) w.0),
          λ k l. computes k None (omega arith) (subst (λ o. IsSomeAnd o (λ x. Called g f (x, tt) None f)) (at_place k (omega (arith, h.1))) (w.1 k l)),
        )
