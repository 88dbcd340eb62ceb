-- Sets with the messages of a list; a seal more.
use Rattle.std.proofs.Common.{◌≡◌, ℕ, ◌<◌, ◌≤◌, Bool, true, false, ◌&&◌, ◌||◌, eqb, Option, Some, List, [], ◌∷◌, ◌++◌, sym, refl, ap, ◌∙◌, arith}
use Rattle.std.proofs.lemmas.Bool.Decides.{nat_tests}
use Rattle.model.specs.World.{message, has, same}
use Rattle.model.specs.World.{Message as Said}
use Rattle.messages.specs.declared.message.Message.{Message}
use Rattle.messages.specs.Meaning.{means}
use Rattle.messages.specs.Stored.{joined}
use Rattle.seals.specs.Seals.{allowed, added}
use Rattle.seats.specs.Sent.{maybe, with_all}
use Rattle.seats.specs.Desk.{sealed_with}

or_none : (y f : Bool) → (y || f) ≡ ((y || false) || f)
or_none y f = grind arith

-- one message
pub joined_one : (m : Said) (f : Said → Bool) → joined m f ≡ with_all (m ∷ []) f
joined_one m f = λ i x. or_none (same m x) (f x) i

-- a message, if there is one
pub posted_one : (o : Option Message) (m : Message) (f : Said → Bool) → o ≡ Some m → joined (means m) f ≡ with_all (maybe o) f
posted_one o m f e = joined_one (means m) f ∙ ap (λ p. with_all (maybe p) f) (sym e)

or_assoc : (a b d : Bool) → ((a || b) || d) ≡ (a || (b || d))
or_assoc a b d = grind arith

pub has_append : (xs ys : List Said) (m : Said) → has (xs ++ ys) m ≡ (has xs m || has ys m)
has_append [] ys m = refl
has_append (x ∷ xs) ys m = ap (λ b. same x m || b) (has_append xs ys m) ∙ sym (or_assoc (same x m) (has xs m) (has ys m))

turned : (a b f : Bool) → (b || (a || f)) ≡ ((a || b) || f)
turned a b f = grind arith

-- one list after another
pub with_both : (xs ys : List Said) (f : Said → Bool) → with_all ys (with_all xs f) ≡ with_all (xs ++ ys) f
with_both xs ys f =
    let at : (m : Said) → with_all ys (with_all xs f) m ≡ with_all (xs ++ ys) f m =
    (λ m. turned (has xs m) (has ys m) (f m) ∙ ap (λ b. b || f m) (sym (has_append xs ys m))) in
    λ i m. at m i

eqb_back : (x y : ℕ) → eqb x y ≡ eqb y x
eqb_back x y = grind (arith, nat_tests)

joins : (a kk ss bb f : Bool) → a ≡ true → ((a && (kk && (ss && bb))) || f) ≡ (((kk && (ss && bb)) || false) || f)
joins a kk ss bb f e = grind arith

-- a seal more is a message more in the list of seals
pub added_one : (k s b : ℕ) (f : ℕ → ℕ → ℕ → Bool) → allowed k s b ≡ true → added k s b f ≡ sealed_with (message k s b ∷ []) f
added_one k s b f ok =
    let at : (k' s' x : ℕ) → added k s b f k' s' x ≡ sealed_with (message k s b ∷ []) f k' s' x =
    (λ k' s' x.
    (λ i. (allowed k s b && (eqb_back k' k i && (eqb_back s' s i && eqb_back x b i))) || f k' s' x)
    ∙ joins (allowed k s b) (eqb k k') (eqb s s') (eqb b x) (f k' s' x) ok) in
    λ i k' s' x. at k' s' x i

pub allowed_block : (k s b : ℕ) → (eqb k 2 || eqb k 4) ≡ true → s < 13 → 1 ≤ b → b ≤ 312 → allowed k s b ≡ true
allowed_block k s b kind h lo hi = grind (arith, nat_tests)

pub allowed_round : (s r : ℕ) → s < 13 → 1 ≤ r → r ≤ 8 → allowed 6 s r ≡ true
allowed_round s r h lo hi = grind (arith, nat_tests)
