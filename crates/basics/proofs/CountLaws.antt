-- Counts below a bound: how large they are, when they agree, and what one number more adds.
use Rattle.std.proofs.Common.{◌≡◌, ℕ, zero, suc, ◌+◌, ◌-◌, ◌*◌, ◌/◌, ◌%◌, ◌^◌, ◌<◌, ◌≤◌, Bool, true, false, cond, ◌||◌, eqb, sym, refl, ap, ◌∙◌, ap₂, add-zero, add-suc, mod-lt, mod-eq_of_lt, add_comm, one-add, arith, lit<, pow_pos}
use native.Mathlib.Nat.{mod-one}
use lib.Pow.{mod-pow-add}
use lib.Count.{ones, ones_in, ones_cat}
use Rattle.std.proofs.lemmas.Bool.Decides.{nat_tests}
use Rattle.basics.specs.Bit.{bit}
use Rattle.basics.specs.Put.{put}
use Rattle.basics.specs.Count.{tally, some_below}
use Rattle.basics.proofs.BitLaws.{bit_past}

-- at most the bound
pub tally_le : (f : ℕ → Bool) (n : ℕ) → tally f n ≤ n
tally_le f zero = omega arith
tally_le f (suc n) = grind (arith, nat_tests, tally_le f n)

-- tests that agree below the bound have the same count
pub tally_same : (f g : ℕ → Bool) (n : ℕ) → ((k : ℕ) → k < n → f k ≡ g k) → tally f n ≡ tally g n
tally_same f g zero h = refl
tally_same f g (suc n) h = grind (arith, nat_tests, tally_same f g n, h n)

-- where none passes the count is 0
pub tally_none : (f : ℕ → Bool) (n : ℕ) → ((k : ℕ) → k < n → f k ≡ false) → tally f n ≡ 0
tally_none f zero h = refl
tally_none f (suc n) h = grind (arith, nat_tests, tally_none f n, h n)

-- past a bound from which none passes the count stays
pub tally_past : (f : ℕ → Bool) (n j : ℕ) → ((k : ℕ) → n ≤ k → f k ≡ false) → tally f (n + j) ≡ tally f n
tally_past f n zero h = ap (tally f) (add-zero n)
tally_past f n (suc j) h =
    ap (tally f) (add-suc n j) ∙ ap₂ ◌+◌ (tally_past f n j h) (ap (λ b. cond b 1 0) (h (n + j) (omega arith))) ∙ add-zero (tally f n)

-- one more number below the bound passes
pub tally_add : (f : ℕ → Bool) (n x : ℕ) → x < n → f x ≡ false → tally (λ c. eqb c x || f c) n ≡ tally f n + 1
tally_add f zero x h gone = absurd (omega arith)
tally_add f (suc n) x h gone = grind (arith, nat_tests, tally_add f n x, tally_same (λ c. eqb c x || f c) f n)

-- the same of a set that a number joins
pub tally_put : (f : ℕ → Bool) (n x : ℕ) → x < n → f x ≡ false → tally (put x true f) n ≡ tally f n + 1
tally_put f n x h gone = tally_same _ _ n (λ k lt. grind (arith, nat_tests)) ∙ tally_add f n x h gone

-- the digits below n, and the one at n
mod_split : (m n : ℕ) → m % 2 ^ suc n ≡ (m / 2 ^ n % 2) * 2 ^ n + m % 2 ^ n
mod_split m n = ap (λ x. m % 2 ^ x) (sym (one-add n)) ∙ mod-pow-add m 1 n

ones_of_digit : (m n : ℕ) → ones (m / 2 ^ n % 2) ≡ cond (bit m n) 1 0
unfolding bit ones ones_in
ones_of_digit m n = grind (arith, nat_tests, mod-lt (m / 2 ^ n) {m = 2} (lit< tt))

-- what `count_ones` counts in the digits below n
pub ones_tally : (m n : ℕ) → ones (m % 2 ^ n) ≡ tally (bit m) n
unfolding ones
ones_tally m zero = ap ones (mod-one m)
ones_tally m (suc n) =
    ap ones (mod_split m n) ∙ ones_cat n (m / 2 ^ n % 2) (m % 2 ^ n) (mod-lt m (pow_pos n))
    ∙ ap₂ ◌+◌ (ones_of_digit m n) (ones_tally m n) ∙ add_comm (cond (bit m n) 1 0) (tally (bit m) n)

-- what it counts in a whole mask of w bits, below any bound past them
pub ones_all : (w m n : ℕ) → m < 2 ^ w → w ≤ n → ones m ≡ tally (bit m) n
ones_all w m n h past =
    let e : w + (n - w) ≡ n = omega arith in
    ap ones (sym (mod-eq_of_lt h)) ∙ ones_tally m w ∙ sym (tally_past (bit m) w (n - w) (λ k. bit_past w m k h)) ∙ ap (tally (bit m)) e

-- where none below the bound passes, each fails
pub none_below : (f : ℕ → Bool) (n : ℕ) → some_below f n ≡ false → (k : ℕ) → k < n → f k ≡ false
none_below f zero h k lt = absurd (omega arith)
none_below f (suc n) h k lt = grind (arith, nat_tests, none_below f n)

-- tests that agree below the bound find the same
pub some_same : (f g : ℕ → Bool) (n : ℕ) → ((k : ℕ) → k < n → f k ≡ g k) → some_below f n ≡ some_below g n
some_same f g zero h = refl
some_same f g (suc n) h = grind (arith, nat_tests, some_same f g n, h n)

-- one below the bound that passes is found
pub some_here : (f : ℕ → Bool) (n k : ℕ) → k < n → f k ≡ true → some_below f n ≡ true
some_here f zero k lt e = absurd (omega arith)
some_here f (suc n) k lt e = grind (arith, nat_tests, some_here f n k)
