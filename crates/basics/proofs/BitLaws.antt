-- What is in a mask after a number has joined it or left it.
use Rattle.std.proofs.Common.{◌≡◌, ℕ, zero, suc, ◌-◌, ◌*◌, ◌/◌, ◌%◌, ◌^◌, ◌<◌, ◌≤◌, min, true, false, not, ◌&&◌, eqb, ltb, sym, ap, ◌∙◌, subst, ⊎_elim, pow-suc, div-one, one-add, arith, shr-shr}
use Rattle.std.specs.Int.{bit_at}
use lib.Bits.{bit_or, bit_and, and_le_l}
use lib.Pow.{pow-lt}
use Rattle.std.proofs.lemmas.Nat.{one_shl}
use Rattle.std.proofs.lemmas.Bool.{cases_eq, cases_lt, eq-eqb, ne_eqb, le-ltb, and_from, both_ways, and_parts}
use Rattle.std.proofs.lemmas.Bool.Decides.{nat_tests}
use Rattle.std.proofs.lemmas.Nat.Bits.{shr_and_one, bit_at-zero, bit_at_above, bit_at_and, bit_at_or, bit_at-lt, bit_at-pow_same, bit_at-pow_other}
use Rattle.basics.specs.Bit.{bit, Meets}
use Rattle.basics.specs.Put.{put, put_below}

-- two sets with the same numbers are the same function
pub same_set : {A : Type 0} {f g : ℕ → A} → ((i : ℕ) → f i ≡ g i) → f ≡ g
same_set h = λ i k. h k i

-- what stands at the changed number, and what at another
pub put_here : {A : Type 0} (i : ℕ) (v : A) (f : ℕ → A) (k : ℕ) → i ≡ k → put i v f k ≡ v
put_here i v f k e = grind (arith, nat_tests)

pub put_there : {A : Type 0} (i : ℕ) (v : A) (f : ℕ → A) (k : ℕ) → (i ≡ k → ⊥) → put i v f k ≡ f k
put_there i v f k ne = grind (arith, nat_tests)

-- a number below the width is changed, and none past it
pub put_inside : {A : Type 0} (w i : ℕ) (v : A) (f : ℕ → A) → i < w → put_below w i v f ≡ put i v f
put_inside w i v f h = same_set (λ k. grind (arith, nat_tests))

pub put_outside : {A : Type 0} (w i : ℕ) (v : A) (f : ℕ → A) → w ≤ i → put_below w i v f ≡ f
put_outside w i v f h = same_set (λ k. grind (arith, nat_tests))

-- the empty set
pub bit_none : (i : ℕ) → bit 0 i ≡ false
unfolding bit
bit_none i = ap (λ x. eqb x 1) (bit_at-zero i)

-- nothing past the width
pub bit_past : (w m i : ℕ) → m < 2 ^ w → w ≤ i → bit m i ≡ false
unfolding bit
bit_past w m i h past = ap (λ x. eqb x 1) (bit_at_above m w i h past)

-- past the width the test `i < w` says as much
pub no_digit : (w m i : ℕ) → m < 2 ^ w → w ≤ i → ltb i w ≡ bit m i
no_digit w m i h past = le-ltb i w past ∙ sym (bit_past w m i h past)

-- the digit that `>>` and `& 1` read
pub bit_read : (m i : ℕ) → eqb (bit_and (m / 2 ^ i) 1) 1 ≡ bit m i
unfolding bit
bit_read m i = ap (λ x. eqb x 1) (shr_and_one m i)

set_at : (m i k : ℕ) → bit (bit_or m (2 ^ i)) k ≡ put i true (bit m) k
unfolding bit
set_at m i k =
    let both = bit_at_or m (2 ^ i) k in
    let low = bit_at-lt m k in
    ⊎_elim
    (λ (e : i ≡ k).
    let one : bit_at (2 ^ i) k ≡ 1 = ap (bit_at (2 ^ i)) (sym e) ∙ bit_at-pow_same i in
    let high : bit_at (bit_or m (2 ^ i)) k ≡ 1 = omega (arith, both, low, one) in
    ap (λ x. eqb x 1) high ∙ sym (put_here i true (bit m) k e))
    (λ (ne : i ≡ k → ⊥).
    let none : bit_at (2 ^ i) k ≡ 0 = bit_at-pow_other i k (λ e. ne (sym e)) in
    let same : bit_at (bit_or m (2 ^ i)) k ≡ bit_at m k = omega (arith, both, none) in
    ap (λ x. eqb x 1) same ∙ sym (put_there i true (bit m) k ne))
    (cases_eq i k)

-- the set with i in it, as `m | (1 << i)` makes it at a width of w bits
pub bit_with : (w m i : ℕ) → i < w → bit (bit_or m ((1 * 2 ^ i) % 2 ^ w)) ≡ put_below w i true (bit m)
bit_with w m i h = ap (λ x. bit (bit_or m x)) (one_shl i w h) ∙ same_set (set_at m i) ∙ sym (put_inside w i true (bit m) h)

-- a digit of the complement
halved : (x k : ℕ) → x / 2 ^ suc k ≡ x / 2 / 2 ^ k
halved x k = ap (λ e. x / 2 ^ e) (sym (one-add k)) ∙ sym (shr-shr x 1 k)

not_digit : (k w a : ℕ) → k < w → a < 2 ^ w → ((2 ^ w - 1) - a) / 2 ^ k % 2 ≡ 1 - a / 2 ^ k % 2
not_digit k zero a h low = absurd (omega arith)
not_digit zero (suc w) a h low =
    let even = pow-suc 2 w in
    ap (λ x. x % 2) (div-one ((2 ^ suc w - 1) - a)) ∙ parity (2 ^ suc w) (2 ^ w) a even low ∙ sym (ap (λ x. 1 - x % 2) (div-one a))
  where
    parity : (p q a : ℕ) → p ≡ q * 2 → a < p → ((p - 1) - a) % 2 ≡ 1 - a % 2
    parity p q a e h = omega arith
not_digit (suc k) (suc w) a h low =
    let even = pow-suc 2 w in
    ap (λ x. x % 2) (halved ((2 ^ suc w - 1) - a) k) ∙ ap (λ x. x / 2 ^ k % 2) (half (2 ^ suc w) (2 ^ w) a even low)
    ∙ not_digit k w (a / 2) (omega arith) (omega arith) ∙ sym (ap (λ x. 1 - x % 2) (halved a k))
  where
    half : (p q a : ℕ) → p ≡ q * 2 → a < p → ((p - 1) - a) / 2 ≡ (q - 1) - a / 2
    half p q a e h = omega arith

clear_at : (w m i k : ℕ) → i < w → k < w → bit (bit_and m ((2 ^ w - 1) - 2 ^ i)) k ≡ put i false (bit m) k
unfolding bit
clear_at w m i k h inside =
    let both = bit_at_and m ((2 ^ w - 1) - 2 ^ i) k in
    let digit : bit_at ((2 ^ w - 1) - 2 ^ i) k ≡ 1 - bit_at (2 ^ i) k = not_digit k w (2 ^ i) inside (pow-lt h) in
    let low = bit_at-lt m k in
    ⊎_elim
    (λ (e : i ≡ k).
    let one : bit_at (2 ^ i) k ≡ 1 = ap (bit_at (2 ^ i)) (sym e) ∙ bit_at-pow_same i in
    let gone : bit_at (bit_and m ((2 ^ w - 1) - 2 ^ i)) k ≡ 0 = omega (arith, both, digit, one) in
    ap (λ x. eqb x 1) gone ∙ sym (put_here i false (bit m) k e))
    (λ (ne : i ≡ k → ⊥).
    let none : bit_at (2 ^ i) k ≡ 0 = bit_at-pow_other i k (λ e. ne (sym e)) in
    let same : bit_at (bit_and m ((2 ^ w - 1) - 2 ^ i)) k ≡ bit_at m k = omega (arith, both, digit, none, low) in
    ap (λ x. eqb x 1) same ∙ sym (put_there i false (bit m) k ne))
    (cases_eq i k)

-- the set without i, as `m & !(1 << i)` makes it at a width of w bits
pub bit_without : (w m i : ℕ) → m < 2 ^ w → i < w → bit (bit_and m ((2 ^ w - 1) - (1 * 2 ^ i) % 2 ^ w)) ≡ put_below w i false (bit m)
bit_without w m i small h =
    ap (λ x. bit (bit_and m ((2 ^ w - 1) - x))) (one_shl i w h)
    ∙ same_set (λ k. ⊎_elim
    (λ (low : k < w). clear_at w m i k h low)
    (λ (past : w ≤ k).
    let less : bit_and m ((2 ^ w - 1) - 2 ^ i) < 2 ^ w = omega (arith, and_le_l m ((2 ^ w - 1) - 2 ^ i)) in
    bit_past w (bit_and m ((2 ^ w - 1) - 2 ^ i)) k less past ∙ sym (put_there i false (bit m) k (λ e. omega arith) ∙ bit_past w m k small past))
    (cases_lt k w))
    ∙ sym (put_inside w i false (bit m) h)

-- what two sets have in common
digit_and : (x y : ℕ) → x < 2 → y < 2 → eqb (min x y) 1 ≡ (eqb x 1 && eqb y 1)
digit_and x y hx hy = grind (arith, nat_tests)

bit_of_both : (a b k : ℕ) → bit (bit_and a b) k ≡ (bit a k && bit b k)
unfolding bit
bit_of_both a b k = ap (λ x. eqb x 1) (bit_at_and a b k) ∙ digit_and (bit_at a k) (bit_at b k) (bit_at-lt a k) (bit_at-lt b k)

-- a set that is not empty has a number
some_bit : (w m : ℕ) → m < 2 ^ w → (m ≡ 0 → ⊥) → (i : ℕ) × (bit m i ≡ true)
unfolding bit
some_bit zero m h ne = absurd (ne (omega arith))
some_bit (suc w) m h ne =
    let even = pow-suc 2 w in
    ⊎_elim
    (λ (e : m % 2 ≡ 1). (0, ap (λ x. eqb (x % 2) 1) (div-one m) ∙ eq-eqb (m % 2) 1 e))
    (λ (no : m % 2 ≡ 1 → ⊥).
    let r = some_bit w (m / 2) (omega arith) (λ e. ne (omega arith)) in
    (suc r.0, ap (λ x. eqb (x % 2) 1) (halved m r.0) ∙ r.1))
    (cases_eq (m % 2) 1)

-- what the test `a & b != 0` says
pub meets_by_and : (w a b : ℕ) → a < 2 ^ w → Meets (not (eqb (bit_and a b) 0)) a b
meets_by_and w a b h =
    ⊎_elim
    (λ (e : bit_and a b ≡ 0).
    let none : not (eqb (bit_and a b) 0) ≡ false = ap not (eq-eqb (bit_and a b) 0 e) in
    subst (λ r. Meets r a b) (sym none) (λ i f g. both_ways (bit (bit_and a b) i) (ap (λ m. bit m i) e ∙ bit_none i) (bit_of_both a b i ∙ and_from _ _ f g)))
    (λ (ne : bit_and a b ≡ 0 → ⊥).
    let some : not (eqb (bit_and a b) 0) ≡ true = ap not (ne_eqb (bit_and a b) 0 ne) in
    let small : bit_and a b < 2 ^ w = omega (arith, and_le_l a b) in
    let r = some_bit w (bit_and a b) small ne in
    let both = and_parts (bit a r.0) (bit b r.0) (sym (bit_of_both a b r.0) ∙ r.1) in
    subst (λ r. Meets r a b) (sym some) (r.0, both.0, both.1))
    (cases_eq (bit_and a b) 0)
