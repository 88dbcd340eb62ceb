-- The rows of a row book: which seal stands where, and what one bit more adds.
use Rattle.std.proofs.Common.{◌≡◌, ℕ, ◌<◌, ◌≤◌, Bool, true, false, ◌&&◌, ◌||◌, eqb, ltb, List, length, get_or, set, sym, ap, ◌∙◌, ap₂, arith, get_or-set_other}
use Rattle.std.proofs.lemmas.Bool.Decides.{nat_tests}
use Rattle.std.proofs.lemmas.Bool.{and_from, lt-ltb}
use Rattle.std.proofs.lemmas.Grind.{get_or-set_at}
use Rattle.basics.specs.Bit.{bit}
use Rattle.basics.specs.Put.{put, put_below}
use Rattle.basics.proofs.BitLaws.{bit_none, put_inside}
use Rattle.seals.specs.Seals.{allowed, added, none}
use Rattle.seals.specs.Rows.{row_holds, row_at}
use Rattle.seals.proofs.AddedLaws.{same_seal}

-- a seal can be exactly if its kind and subject have a row
pub allowed_row : (k s b : ℕ) → allowed k s b ≡ (ltb (row_at k b) 632 && ltb s 13)
allowed_row k s b = grind (arith, nat_tests)

pub row_allowed : (k s b : ℕ) → row_at k b < 632 → s < 13 → allowed k s b ≡ true
row_allowed k s b h small = allowed_row k s b ∙ and_from _ _ (lt-ltb _ _ h) (lt-ltb _ _ small)

-- two kinds and subjects do not share a row
pub row_apart : (k b k' b' : ℕ) → row_at k b < 632 → row_at k b ≡ row_at k' b' → (k ≡ k') × (b ≡ b')
row_apart k b k' b' h e = (grind (arith, nat_tests), grind (arith, nat_tests))

row_eq : (k b k' b' : ℕ) → row_at k b < 632 → eqb (row_at k' b') (row_at k b) ≡ (eqb k' k && eqb b' b)
row_eq k b k' b' h = both (row_at k b) (row_at k' b') (row_apart k b k' b' h) (λ e g. ap₂ row_at e g)
  where
    both : (r r' : ℕ) → (r ≡ r' → (k ≡ k') × (b ≡ b')) → (k ≡ k' → b ≡ b' → r ≡ r') → eqb r' r ≡ (eqb k' k && eqb b' b)
    both r r' to from = grind (arith, nat_tests)

-- one row written, with one bit more
at_row : (ms : List ℕ) (r s v r' s' : ℕ) → r < length ms → bit v ≡ put s true (bit (get_or ms r 0))
    → bit (get_or (set ms r v) r' 0) s' ≡ ((eqb r' r && eqb s' s) || bit (get_or ms r' 0) s')
at_row ms r s v r' s' h more = let m : bit v s' ≡ put s true (bit (get_or ms r 0)) s' = ap (λ f. f s') more in grind (arith, nat_tests, get_or-set_at, get_or-set_other)

-- the seal (kk, ss, bb: same kind, seat, subject) joins y; p: it can be
joins : (p kk ss bb y : Bool) → ((kk && (ss && bb)) ≡ true → p ≡ true) → (p && (((kk && bb) && ss) || y)) ≡ ((kk && (ss && bb)) || (p && y))
joins p kk ss bb y f = grind arith

pub row_sealed : (ms : List ℕ) (k s b r v : ℕ) → 632 ≤ length ms → r ≡ row_at k b → r < 632 → s < 13 → bit v ≡ put_below 16 s true (bit (get_or ms r 0))
    → row_holds (set ms r v) ≡ added k s b (row_holds ms)
row_sealed ms k s b r v long at h small more =
    let here : bit v ≡ put s true (bit (get_or ms r 0)) = more ∙ put_inside 16 s true (bit (get_or ms r 0)) (omega arith) in
    let low : row_at k b < 632 = omega arith in
    let ok : allowed k s b ≡ true = row_allowed k s b low small in
    let each : (k' s' b' : ℕ) → row_holds (set ms r v) k' s' b' ≡ added k s b (row_holds ms) k' s' b' =
    (λ k' s' b'.
    let y = bit (get_or ms (row_at k' b') 0) s' in
    ap (λ x. allowed k' s' b' && x)
    (at_row ms r s v (row_at k' b') s' (omega arith) here ∙ ap (λ x. (x && eqb s' s) || y) (ap (λ x. eqb (row_at k' b') x) at ∙ row_eq k b k' b' low))
    ∙ joins (allowed k' s' b') (eqb k' k) (eqb s' s) (eqb b' b) y (λ e. same_seal allowed k s b k' s' b' e ∙ ok)
    ∙ ap (λ x. (x && (eqb k' k && (eqb s' s && eqb b' b))) || row_holds ms k' s' b') (sym ok)) in
    λ i k' s' b'. each k' s' b' i

-- all rows empty
pub row_cleared : (ms : List ℕ) → ((i : ℕ) → i < 632 → get_or ms i 0 ≡ 0) → row_holds ms ≡ none
row_cleared ms h =
    let each : (k s b : ℕ) → row_holds ms k s b ≡ false =
    (λ k s b.
    let ok = allowed_row k s b in
    let clear = h (row_at k b) in
    let empty = bit_none s in
    grind (arith, nat_tests)) in
    λ i k s b. each k s b i
