-- Lemmas on the frames of a record: one more block, and how long the lines of refusals are.
use Rattle.std.proofs.Common.{◌≡◌, ℕ, ◌+◌, ◌*◌, ◌/◌, ◌%◌, ◌<◌, Bool, true, cond, ltb, List, [], ◌∷◌, ◌++◌, map, length, refl, ap, ◌∙◌, append_assoc, arith, length-append}
use Rattle.std.proofs.lemmas.Bool.{lt-ltb}
use Rattle.lines.specs.Output.{line, text}
use Rattle.records.specs.Frames.{refusal_frame, wides}
use Rattle.records.specs.declared.refusal.Refusal.{Refusal}

pub wides_push : (xs : List ℕ) (b : ℕ) → wides (xs ++ b ∷ []) ≡ wides xs ++ b / 256 ∷ b % 256 ∷ []
wides_push [] b = refl
wides_push (x ∷ xs) b = ap (λ r. x / 256 ∷ x % 256 ∷ r) (wides_push xs b)

pub length_wides : (xs : List ℕ) → length (wides xs) ≡ 2 * length xs
length_wides [] = refl
length_wides (x ∷ xs) = let e = length_wides xs in omega arith

-- two elements are pushed onto a list with room for them
pub pushed_two : (l m n : List ℕ) (cap u v : ℕ) (a b : Bool) → length l + 1 < cap → a ≡ ltb (length l) cap → m ≡ cond a (l ++ u ∷ []) l
    → b ≡ ltb (length m) cap → n ≡ cond b (m ++ v ∷ []) m → n ≡ l ++ u ∷ v ∷ []
pushed_two l m n cap u v a b h ea em eb en =
    let one : m ≡ l ++ u ∷ [] = em ∙ ap (λ y. cond y (l ++ u ∷ []) l) (ea ∙ lt-ltb (length l) cap (omega arith)) in
    let two : b ≡ true = eb ∙ lt-ltb (length m) cap (omega (arith, ap length one, length-append l (u ∷ []))) in
    en ∙ ap (λ y. cond y (m ++ v ∷ []) m) two ∙ ap (λ r. r ++ v ∷ []) one ∙ append_assoc l (u ∷ []) (v ∷ [])

-- 17 characters to a refusal
pub length_refusals : (fs : List Refusal) → length (text (map refusal_frame fs)) ≡ 17 * length fs
length_refusals [] = refl
length_refusals (f ∷ fs) =
    let e = length_refusals fs in
    let a = length-append (line (refusal_frame f)) (text (map refusal_frame fs)) in
    let b : length (line (refusal_frame f)) ≡ 17 = refl in
    omega arith
