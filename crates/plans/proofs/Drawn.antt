-- The ranks that a plan takes from a draw.
use Rattle.std.proofs.Common.{◌≡◌, ℕ, ◌+◌, ◌-◌, ◌*◌, ◌/◌, ◌%◌, ◌<◌, ◌≤◌, Bool, true, false, cond, ◌&&◌, ltb, leb, List, get_or, sym, ap, ◌∙◌, subst, ap₂, ⊎_elim, arith}
use lib.Arith.{digits_div, digits_mod}
use Rattle.std.proofs.lemmas.Bool.{cases_Bool, cond-true, cond-false, and_parts, ltb-true, leb-true, lt-ltb}
use Rattle.draws.specs.Ranks.{drawn, Once}
use Rattle.plans.specs.Tables.{rank_in, RanksBelow, RanksApart}
use Rattle.plans.specs.Setup.{drawn_rank}

module _ (n R : ℕ) (rank : ℕ → ℕ → ℕ) (ranks : List ℕ) (few : n ≤ 13) (short : R ≤ 8)
    (filled : (i : ℕ) → i < 104 → get_or ranks i 0 ≡ cond (drawn n R (i / 13 + 1) (i % 13)) (rank (i / 13 + 1) (i % 13)) 0) where
  read : (k s : ℕ) → drawn n R k s ≡ true → get_or ranks ((k - 1) * 13 + s) 0 ≡ rank k s
  read k s h =
      let p = and_parts (ltb s n) (leb 1 k && leb k R) h in
      let q = and_parts (leb 1 k) (leb k R) p.1 in
      let low : s < 13 = omega (arith, ltb-true s n p.0) in
      let first = leb-true 1 k q.0 in
      let last = leb-true k R q.1 in
      let i : ℕ = (k - 1) * 13 + s in
      let in_table : i < 104 = omega arith in
      let round : i / 13 + 1 ≡ k = ap (λ (x : ℕ). x + 1) (digits_div (k - 1) low) ∙ omega arith in
      let seat : i % 13 ≡ s = digits_mod (k - 1) low in
      filled i in_table ∙ ap₂ (λ a b. cond (drawn n R a b) (rank a b) 0) round seat ∙ cond-true (drawn n R k s) (rank k s) 0 h

  pub rank_taken : rank_in n R ranks ≡ drawn_rank n R rank
  rank_taken =
      let at : (k s : ℕ) → rank_in n R ranks k s ≡ drawn_rank n R rank k s =
      (λ k s. ⊎_elim
      (λ (y : drawn n R k s ≡ true). cond-true (drawn n R k s) (get_or ranks ((k - 1) * 13 + s) 0) s y ∙ read k s y ∙ sym (cond-true (drawn n R k s) (rank k s) s y))
      (λ (x : drawn n R k s ≡ false). cond-false (drawn n R k s) (get_or ranks ((k - 1) * 13 + s) 0) s x ∙ sym (cond-false (drawn n R k s) (rank k s) s x))
      (cases_Bool (drawn n R k s))) in
      λ t k s. at k s t

  inside : ℕ → Bool
  inside k = leb 1 k && leb k R

  as_drawn : (k s : ℕ) → s < n → inside k ≡ true → rank_in n R ranks k s ≡ rank k s
  unfolding inside
  as_drawn k s h y = ap (λ f. f k s) rank_taken ∙ cond-true (drawn n R k s) (rank k s) s (ap₂ ◌&&◌ (lt-ltb s n h) y)

  as_own : (k s : ℕ) → s < n → inside k ≡ false → rank_in n R ranks k s ≡ s
  unfolding inside
  as_own k s h x = cond-false (drawn n R k s) (get_or ranks ((k - 1) * 13 + s) 0) s (ap₂ ◌&&◌ (lt-ltb s n h) x)

  module _ (once : (k : ℕ) → 1 ≤ k → k ≤ R → Once n (rank k)) where
    at_round : (k : ℕ) → inside k ≡ true → Once n (rank k)
    unfolding inside
    at_round k y = let q = and_parts (leb 1 k) (leb k R) y in once k (leb-true 1 k q.0) (leb-true k R q.1)

    pub ranks_below : RanksBelow n R ranks
    ranks_below q = ⊎_elim
        (λ (y : inside q.round ≡ true). subst (λ (r : ℕ). r < n) (sym (as_drawn q.round q.one q.one_low y)) ((at_round q.round y).below q.one q.one_low))
        (λ (x : inside q.round ≡ false). subst (λ (r : ℕ). r < n) (sym (as_own q.round q.one q.one_low x)) q.one_low)
        (cases_Bool (inside q.round))

    pub ranks_apart : RanksApart n R ranks
    ranks_apart q e = ⊎_elim
        (λ (y : inside q.round ≡ true). (at_round q.round y).apart q.one q.other q.one_low q.other_low
        (sym (as_drawn q.round q.one q.one_low y) ∙ e ∙ as_drawn q.round q.other q.other_low y))
        (λ (x : inside q.round ≡ false). sym (as_own q.round q.one q.one_low x) ∙ e ∙ as_own q.round q.other q.other_low x)
        (cases_Bool (inside q.round))
