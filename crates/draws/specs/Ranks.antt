-- The ranks of seats in rounds, and when those of a round occur once each.
use Rattle.std.specs.Prelude.{◌≡◌, ℕ, suc, ◌+◌, ◌-◌, ◌*◌, ◌<◌, ◌≤◌, Bool, false, cond, ◌&&◌, ◌||◌, List, Option, ◌==◌, ◌≢◌, nat_eq, nat_le, nat_lt, slice_index}
use Rattle.std.proofs.Common.{sym, subst, ⊎_elim, arith}
use Rattle.std.proofs.lemmas.Bool.{cases_order, eq-eqb, leb-false, or_parts, both_ways}
use Rattle.basics.specs.Count.{some_below}
use Rattle.basics.specs.Numbers.{only_if}
use Rattle.basics.proofs.CountLaws.{none_below}

-- from 1 to 13 seats and from 1 to 8 rounds
pub record Bounds (n R : ℕ) : Type 0 where
  pub some_seat : 1 ≤ n
  pub few_seats : n ≤ 13
  pub some_round : 1 ≤ R
  pub few_rounds : R ≤ 8

-- the ranks of the n seats are below n and no two are the same: so each number below n occurs once
pub record Once (n : ℕ) (rank : ℕ → ℕ) : Type 0 where
  pub below : (s : ℕ) → s < n → rank s < n
  pub apart : (s t : ℕ) → s < n → t < n → rank s ≡ rank t → s ≡ t

-- a draw of n seats and R rounds has a rank for seat s in round k
abbrev pub drawn : ℕ → ℕ → ℕ → ℕ → Bool
drawn n R k s = nat_lt s n && (nat_le 1 k && nat_le k R)

-- the answer to the question for the rank of seat s in round k: outside the draw none
abbrev pub answered : ℕ → ℕ → (ℕ → ℕ → ℕ) → ℕ → ℕ → Option ℕ
answered n R rank k s = only_if (drawn n R k s) (rank k s)

-- the ranks that a table lists round by round and, in a round, seat by seat; outside the table 0
abbrev pub table_rank : ℕ → ℕ → List ℕ → ℕ → ℕ → ℕ
table_rank n R xs k s = cond (drawn n R k s) (slice_index xs ((k - 1) * n + s)) 0

-- the rank of seat s is not below n, or a seat before s has it too
abbrev pub misplaced : ℕ → (ℕ → ℕ) → ℕ → Bool
misplaced n rank s = nat_le n (rank s) || some_below (λ t. nat_eq (rank t) (rank s)) s

-- a round from 1 to R has such a seat
abbrev pub some_misplaced : ℕ → ℕ → (ℕ → ℕ → ℕ) → Bool
some_misplaced n R rank = some_below (λ j. some_below (misplaced n (rank (suc j))) n) R

-- Where no seat is misplaced, the ranks of each round occur once each. (This is the value of a ghost member, so its proof stands here.)
module _ (n : ℕ) (rank : ℕ → ℕ) (good : some_below (misplaced n rank) n ≡ false) where
  none_before : (s t : ℕ) → s < n → t < s → rank t ≢ rank s
  none_before s t h lt e =
      let parts = or_parts (nat_le n (rank s)) (some_below (λ u. nat_eq (rank u) (rank s)) s) (none_below (misplaced n rank) n good s h) in
      both_ways (rank t == rank s) (none_below (λ u. nat_eq (rank u) (rank s)) s parts.1 t lt) (eq-eqb (rank t) (rank s) e)

  pub once_round : Once n rank
  once_round = record {
    below = λ s h. leb-false n (rank s) (or_parts (nat_le n (rank s)) (some_below (λ u. nat_eq (rank u) (rank s)) s) (none_below (misplaced n rank) n good s h)).0;
    apart = λ s t hs ht e. ⊎_elim (λ same. same) (⊎_elim (λ lt. absurd (none_before t s ht lt e)) (λ gt. absurd (none_before s t hs gt (sym e)))) (cases_order s t);
  }

pub once_from : (n R : ℕ) (rank : ℕ → ℕ → ℕ) → some_misplaced n R rank ≡ false → (j : ℕ) → j < R → Once n (rank (suc j))
once_from n R rank good j h = once_round n (rank (suc j)) (none_below (λ i. some_below (misplaced n (rank (suc i))) n) R good j h)

pub once_at : (n R : ℕ) (rank : ℕ → ℕ → ℕ) → some_misplaced n R rank ≡ false → (k : ℕ) → 1 ≤ k → k ≤ R → Once n (rank k)
once_at n R rank good k lo hi =
    let e : suc (k - 1) ≡ k = omega arith in
    subst (λ (x : ℕ). Once n (rank x)) e (once_from n R rank good (k - 1) (omega arith))
