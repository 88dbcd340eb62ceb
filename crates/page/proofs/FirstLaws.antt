-- Lemmas on the first line: one seat more is looked at, and the ranks do not matter to it.
use Rattle.std.proofs.Common.{◌≡◌, ℕ, zero, suc, ◌+◌, ◌-◌, ◌*◌, ◌<◌, ◌≤◌, Bool, true, false, cond, ◌&&◌, leb, List, Ok, Err, Result, sym, refl, ap, ◌∙◌, subst, arith}
use Rattle.basics.specs.Bit.{bit}
use Rattle.model.specs.Setup.{Plan as Model}
use Rattle.draws.specs.Made.{in_bounds, table_made}
use Rattle.draws.specs.Ranks.{table_rank}
use Rattle.draws.specs.Rotated.{rotated}
use Rattle.draws.specs.declared.fault.DrawFault.TheVariants.{Sizes}
use Rattle.plans.specs.Setup.{fresh_plan, can_be_corrupt, named_corrupt, with_corrupt}
use Rattle.plans.specs.declared.fault.PlanFault.{PlanFault}
use Rattle.plans.specs.declared.fault.PlanFault.TheVariants.{Draw, TooFewSeats, LongDelay}
use Rattle.frames.specs.declared.frame.Setup.{Setup}
use Rattle.page.specs.First.{marked_answer, marked, unless_refused, named, then_named, plan_with, first_plan}
use Rattle.page.specs.Ranks.{with_ranks, with_table, meant, by_draw, table_plan}

module _ (corrupt s : ℕ) (p : Model) where
  pub seat_step : s < 16 → named corrupt (16 - s) s p ≡ unless_refused (marked_answer corrupt s p) (named corrupt (16 - (s + 1)) (s + 1) (marked corrupt s p))
  unfolding named
  seat_step h = let e : 16 - s ≡ suc (16 - (s + 1)) = omega arith in ap (λ k. named corrupt k s p) e

  -- a seat whose bit is not set is passed over
  pub seat_passed : s < 16 → bit corrupt s ≡ false → named corrupt (16 - s) s p ≡ named corrupt (16 - (s + 1)) (s + 1) p
  seat_passed h e = rw e at (seat_step h)

  -- a seat whose bit is set is named corrupt, or refused
  pub seat_named : s < 16 → bit corrupt s ≡ true → named corrupt (16 - s) s p ≡ unless_refused (named_corrupt p s) (named corrupt (16 - (s + 1)) (s + 1) (cond (can_be_corrupt p s) (with_corrupt s p) p))
  seat_named h e = rw e at (seat_step h)

  pub seat_end : 16 ≤ s → named corrupt (16 - s) s p ≡ Ok p
  unfolding named
  seat_end h = let e : 16 - s ≡ 0 = omega arith in ap (λ k. named corrupt k s p) e

-- Naming keeps the sizes of a plan, and goes the same way with other ranks.
abbrev SameSizes : Model → Result Model PlanFault → Type 0
SameSizes p (Ok q) = (q.n ≡ p.n) × (q.rounds ≡ p.rounds)
SameSizes p (Err f) = Unit {0}

module _ (corrupt : ℕ) where
  marked_sizes : (s : ℕ) (p : Model) (b c : Bool) → ((cond b (cond c (with_corrupt s p) p) p).n ≡ p.n) × ((cond b (cond c (with_corrupt s p) p) p).rounds ≡ p.rounds)
  marked_sizes s p true true = (refl, refl)
  marked_sizes s p true false = (refl, refl)
  marked_sizes s p false c = (refl, refl)

  unless_sizes : (p q : Model) (r : Result (Unit {0}) PlanFault) (next : Result Model PlanFault) → (q.n ≡ p.n) × (q.rounds ≡ p.rounds) → SameSizes q next → SameSizes p (unless_refused r next)
  unless_sizes p q (Ok _) (Ok z) e h = (h.0 ∙ e.0, h.1 ∙ e.1)
  unless_sizes p q (Ok _) (Err f) e h = tt
  unless_sizes p q (Err f) next e h = tt

  named_sizes : (left s : ℕ) (p : Model) → SameSizes p (named corrupt left s p)
  unfolding named
  named_sizes zero s p = (refl, refl)
  named_sizes (suc left) s p =
      unless_sizes p (marked corrupt s p) (marked_answer corrupt s p) (named corrupt left (s + 1) (marked corrupt s p)) (marked_sizes s p (bit corrupt s) (can_be_corrupt p s)) (named_sizes left (s + 1) (marked corrupt s p))

  module _ (rank : ℕ → ℕ → ℕ) where
    abbrev re_ranked : Result Model PlanFault → Result Model PlanFault
    re_ranked (Ok p) = Ok (with_ranks rank p)
    re_ranked (Err f) = Err f

    marked_ranks : (s : ℕ) (p : Model) (b c : Bool) → cond b (cond c (with_corrupt s (with_ranks rank p)) (with_ranks rank p)) (with_ranks rank p) ≡ with_ranks rank (cond b (cond c (with_corrupt s p) p) p)
    marked_ranks s p true true = refl
    marked_ranks s p true false = refl
    marked_ranks s p false c = refl

    unless_ranks : (r : Result (Unit {0}) PlanFault) (next : Result Model PlanFault) → unless_refused r (re_ranked next) ≡ re_ranked (unless_refused r next)
    unless_ranks (Ok _) next = refl
    unless_ranks (Err f) next = refl

    named_ranks : (left s : ℕ) (p : Model) → named corrupt left s (with_ranks rank p) ≡ re_ranked (named corrupt left s p)
    unfolding named
    named_ranks zero s p = refl
    named_ranks (suc left) s p =
        ap (λ q. unless_refused (marked_answer corrupt s p) (named corrupt left (s + 1) q)) (marked_ranks s p (bit corrupt s) (can_be_corrupt p s))
        ∙ ap (unless_refused (marked_answer corrupt s p)) (named_ranks left (s + 1) (marked corrupt s p))
        ∙ unless_ranks (marked_answer corrupt s p) (named corrupt left (s + 1) (marked corrupt s p))

-- a plan that the first line makes with one draw, it makes with any other of the same sizes
module _ (u : Setup) (p : Model) (table : List ℕ) where
  with_other : (n R : ℕ) (one other : ℕ → ℕ → ℕ) → plan_with n R other u ≡ re_ranked u.corrupt other (plan_with n R one u)
  with_other n R one other = by (leb (3 * u.t + 1) n) (leb u.d 10000 && leb u.e 10000)
    where
      by : (a b : Bool)
          → then_named u.corrupt (cond a (cond b (Ok (fresh_plan n R other u.t u.d u.e)) (Err LongDelay)) (Err TooFewSeats))
          ≡ re_ranked u.corrupt other (then_named u.corrupt (cond a (cond b (Ok (fresh_plan n R one u.t u.d u.e)) (Err LongDelay)) (Err TooFewSeats)))
      by true true = named_ranks u.corrupt other 16 0 (fresh_plan n R one u.t u.d u.e)
      by true false = refl
      by false b = refl

  with_sizes : (n R : ℕ) (rank : ℕ → ℕ → ℕ) → plan_with n R rank u ≡ Ok p → (p.n ≡ n) × (p.rounds ≡ R)
  with_sizes n R rank e = by (leb (3 * u.t + 1) n) (leb u.d 10000 && leb u.e 10000) e
    where
      by : (a b : Bool) → then_named u.corrupt (cond a (cond b (Ok (fresh_plan n R rank u.t u.d u.e)) (Err LongDelay)) (Err TooFewSeats)) ≡ Ok p → (p.n ≡ n) × (p.rounds ≡ R)
      by true true g = subst (SameSizes (fresh_plan n R rank u.t u.d u.e)) g (named_sizes u.corrupt 16 0 (fresh_plan n R rank u.t u.d u.e))
      by true false g = cc
      by false b g = cc

  first_made : first_plan u ≡ Ok p → plan_with u.n u.rounds (rotated u.n) u ≡ Ok p
  first_made e = by (in_bounds u.n u.rounds) e
    where
      by : (b : Bool) → cond b (plan_with u.n u.rounds (rotated u.n) u) (Err (Draw Sizes)) ≡ Ok p → plan_with u.n u.rounds (rotated u.n) u ≡ Ok p
      by true g = g
      by false g = cc

  pub table_plan_is : first_plan u ≡ Ok p → table_made p.n p.rounds table ≡ Ok (meant p.n p.rounds table) → table_plan u table ≡ Ok (with_table table p)
  table_plan_is e t =
      let f = first_made e in
      let sizes = with_sizes u.n u.rounds (rotated u.n) f in
      ap (λ n. by_draw (table_made n u.rounds table) u) (sym sizes.0) ∙ ap (λ R. by_draw (table_made p.n R table) u) (sym sizes.1)
      ∙ ap (λ m. by_draw m u) t
      ∙ with_other p.n p.rounds (rotated u.n) (table_rank p.n p.rounds table)
      ∙ ap (λ n. re_ranked u.corrupt (table_rank p.n p.rounds table) (plan_with n p.rounds (rotated u.n) u)) sizes.0
      ∙ ap (λ R. re_ranked u.corrupt (table_rank p.n p.rounds table) (plan_with u.n R (rotated u.n) u)) sizes.1
      ∙ ap (re_ranked u.corrupt (table_rank p.n p.rounds table)) f
