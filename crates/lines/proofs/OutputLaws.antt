-- Lemmas on what is written: one more byte, one more line, and how long lines are.
use Rattle.std.proofs.Common.{◌≡◌, ℕ, suc, ◌+◌, ◌*◌, ◌/◌, ◌%◌, ◌<◌, ◌≤◌, cond, List, [], ◌∷◌, ◌++◌, length, get_or, take, drop, set, sym, refl, ap, ◌∙◌, append_assoc, append-nil, add-zero, add-one, arith, length-append, length-drop, take-append-drop, length-take-le, drop-cons, drop-drop}
use lib.Seq.{set_at, append_snoc, take-append_seam, drop-append-add}
use Rattle.std.proofs.lemmas.Bool.{le-leb}
use Rattle.std.proofs.lemmas.List.{drop-append-le}
use Rattle.lines.specs.Output.{numeral, hexed, line, text, written, over, next_place, put, place_after, put_all, place_after_all}

pub hexed_push : (xs : List ℕ) (b : ℕ) → hexed (xs ++ b ∷ []) ≡ hexed xs ++ numeral (b / 16) ∷ numeral (b % 16) ∷ []
hexed_push [] b = refl
hexed_push (x ∷ xs) b = ap (λ r. numeral (x / 16) ∷ numeral (x % 16) ∷ r) (hexed_push xs b)

pub length_hexed : (xs : List ℕ) → length (hexed xs) ≡ 2 * length xs
length_hexed [] = refl
length_hexed (x ∷ xs) = let e = length_hexed xs in omega arith

pub length_line : (xs : List ℕ) → length (line xs) ≡ 2 * length xs + 1
length_line xs = omega (arith, length-append (hexed xs) (10 ∷ []), length_hexed xs)

pub written_none : (xs : List ℕ) (at : ℕ) → at ≤ length xs → xs ≡ written xs at []
written_none xs at h =
    sym (ap (λ k. take at xs ++ [] ++ drop k xs) (add-zero at)
    ∙ ap (λ ys. ys ++ drop at xs) (append-nil (take at xs)) ∙ take-append-drop at xs)

-- one more byte
pub written_push : (xs : List ℕ) (at : ℕ) (ys : List ℕ) (v : ℕ) → at + length ys < length xs
    → set (written xs at ys) (at + length ys) v ≡ written xs at (ys ++ v ∷ [])
written_push xs at ys v h =
    let k = at + length ys in
    let p = take at xs ++ ys in
    let lp : length p ≡ k = omega (arith, length-append (take at xs) ys, length-take-le at xs (omega arith)) in
    let more : k + 1 ≡ at + length (ys ++ v ∷ []) = omega (arith, length-append ys (v ∷ [])) in
    ap (λ r. set (p ++ r) k v) (drop-cons xs k 0 h)
    ∙ set_at p (get_or xs k 0) (drop (suc k) xs) v k lp
    ∙ sym (append_snoc p v (drop (suc k) xs))
    ∙ ap (λ r. r ++ drop (suc k) xs) (append_assoc (take at xs) ys (v ∷ []))
    ∙ ap (λ j. take at xs ++ (ys ++ v ∷ []) ++ drop j xs) (sym (add-one k) ∙ more)

-- two more
pub written_two : (xs : List ℕ) (at : ℕ) (ys : List ℕ) (u v k : ℕ) → k ≡ at + length ys → k + 1 < length xs
    → set (set (written xs at ys) k u) (k + 1) v ≡ written xs at (ys ++ u ∷ v ∷ [])
written_two xs at ys u v k e h =
    let more : k + 1 ≡ at + length (ys ++ u ∷ []) = omega (arith, length-append ys (u ∷ [])) in
    ap (λ o. set o (k + 1) v) (ap (λ j. set (written xs at ys) j u) e ∙ written_push xs at ys u (omega arith))
    ∙ ap (λ j. set (written xs at (ys ++ u ∷ [])) j v) more
    ∙ written_push xs at (ys ++ u ∷ []) v (omega arith)
    ∙ ap (λ zs. written xs at zs) (append_assoc ys (u ∷ []) (v ∷ []))

-- what was written over the start, and then more behind it
pub over_written : (p q xs : List ℕ) → length p + length q ≤ length xs → written (over p xs) (length p) q ≡ over (p ++ q) xs
over_written p q xs h =
    ap (λ r. r ++ q ++ drop (length p + length q) (over p xs)) (take-append_seam p (drop (length p) xs))
    ∙ ap (λ r. p ++ q ++ r) (drop-append-add p (drop (length p) xs) (length q) ∙ drop-drop (length q) (length p) xs ∙ ap (λ k. drop k xs) (sym (length-append p q)))

pub written_over : (xs : List ℕ) (at : ℕ) (p : List ℕ) → at ≤ length xs → written xs at p ≡ over (take at xs ++ p) xs
written_over xs at p h =
    let e : at + length p ≡ length (take at xs ++ p) = omega (arith, length-append (take at xs) p, length-take-le at xs h) in
    ap (λ k. take at xs ++ p ++ drop k xs) e

-- more behind what was written at a place
pub written_more : (xs : List ℕ) (at : ℕ) (p q : List ℕ) (k : ℕ) → k ≡ at + length p → at + length p + length q ≤ length xs
    → written (written xs at p) k q ≡ written xs at (p ++ q)
written_more xs at p q k e h =
    let g : k ≡ length (take at xs ++ p) = omega (arith, length-append (take at xs) p, length-take-le at xs (omega arith)) in
    ap (λ r. written r k q) (written_over xs at p (omega arith))
    ∙ ap (λ j. written (over (take at xs ++ p) xs) j q) g
    ∙ over_written (take at xs ++ p) q xs (omega arith)
    ∙ ap (λ r. over r xs) (append_assoc (take at xs) p q)
    ∙ sym (written_over xs at (p ++ q) (omega arith))

-- a line that fits is put
pub put_fits : (xs : List ℕ) (at : ℕ) (bs : List ℕ) → next_place at bs ≤ length xs → put xs at bs ≡ written xs at (line bs)
put_fits xs at bs h = ap (λ b. cond b (written xs at (line bs)) xs) (le-leb (next_place at bs) (length xs) h)

pub place_fits : (xs : List ℕ) (at : ℕ) (bs : List ℕ) → next_place at bs ≤ length xs → place_after xs at bs ≡ next_place at bs
place_fits xs at bs h = ap (λ b. cond b (next_place at bs) at) (le-leb (next_place at bs) (length xs) h)

-- lines one after the other
pub text_append : (xs ys : List (List ℕ)) → text (xs ++ ys) ≡ text xs ++ text ys
text_append [] ys = refl
text_append (x ∷ xs) ys = ap (λ r. line x ++ r) (text_append xs ys) ∙ sym (append_assoc (line x) (text xs) (text ys))

pub text_push : (xs : List (List ℕ)) (b : List ℕ) → text (xs ++ b ∷ []) ≡ text xs ++ line b
text_push xs b = text_append xs (b ∷ []) ∙ ap (λ r. text xs ++ r) (append-nil (line b))

-- one more piece behind what is written over the start
pub over_next : (xs p q out o : List ℕ) (at : ℕ) → out ≡ over p xs → at ≡ length p → length p + length q ≤ length xs → o ≡ written out at q → o ≡ over (p ++ q) xs
over_next xs p q out o at e a h w = w ∙ ap (λ r. written r at q) e ∙ ap (λ k. written (over p xs) k q) a ∙ over_written p q xs h

-- one piece alone
pub over_alone : (xs q o : List ℕ) → length q ≤ length xs → o ≡ written xs 0 q → o ≡ over (q ++ []) xs
over_alone xs q o h w = over_next xs [] q xs o 0 refl refl (omega arith) w ∙ ap (λ r. over r xs) (sym (append-nil q))

-- nothing written over the start
pub length_over : (ys xs : List ℕ) → length ys ≤ length xs → length (over ys xs) ≡ length xs
length_over ys xs h = omega (arith, length-append ys (drop (length ys) xs), length-drop (length ys) xs)

pub length_written : (xs : List ℕ) (at : ℕ) (ys : List ℕ) → at + length ys ≤ length xs → length (written xs at ys) ≡ length xs
length_written xs at ys h =
    omega (arith, length-append (take at xs ++ ys) (drop (at + length ys) xs), length-append (take at xs) ys, length-take-le at xs (omega arith), length-drop (at + length ys) xs)

-- lines put behind others
pub put_all_append : (xs : List ℕ) (at : ℕ) (ls ms : List (List ℕ)) → put_all xs at (ls ++ ms) ≡ put_all (put_all xs at ls) (place_after_all xs at ls) ms
put_all_append xs at [] ms = refl
put_all_append xs at (bs ∷ ls) ms = put_all_append (put xs at bs) (place_after xs at bs) ls ms

pub place_all_append : (xs : List ℕ) (at : ℕ) (ls ms : List (List ℕ)) → place_after_all xs at (ls ++ ms) ≡ place_after_all (put_all xs at ls) (place_after_all xs at ls) ms
place_all_append xs at [] ms = refl
place_all_append xs at (bs ∷ ls) ms = place_all_append (put xs at bs) (place_after xs at bs) ls ms

-- lines that fit are all written
pub all_fit : (xs : List ℕ) (at : ℕ) (ls : List (List ℕ)) → at + length (text ls) ≤ length xs
    → (put_all xs at ls ≡ written xs at (text ls)) × (place_after_all xs at ls ≡ at + length (text ls))
all_fit xs at [] h = (written_none xs at (omega arith), sym (add-zero at))
all_fit xs at (bs ∷ ls) h =
    let l = length-append (line bs) (text ls) in
    let n = length_line bs in
    let fits : next_place at bs ≤ length xs = omega arith in
    let ys = written xs at (line bs) in
    let here : put xs at bs ≡ ys = put_fits xs at bs fits in
    let on : place_after xs at bs ≡ next_place at bs = place_fits xs at bs fits in
    let more = all_fit ys (next_place at bs) ls (omega (arith, length_written xs at (line bs) (omega arith))) in (
      ap (λ o. put_all o (place_after xs at bs) ls) here ∙ ap (λ k. put_all ys k ls) on ∙ more.0 ∙ written_more xs at (line bs) (text ls) (next_place at bs) (omega arith) (omega arith),
      ap (λ o. place_after_all o (place_after xs at bs) ls) here ∙ ap (λ k. place_after_all ys k ls) on ∙ more.1 ∙ omega arith,
    )

-- what is written over a part at the start is written over the start of all
pub over_front : (ys xs out : List ℕ) (n : ℕ) → length ys ≤ n → n ≤ length xs → out ≡ over ys (take n xs) → out ++ drop n xs ≡ over ys xs
over_front ys xs out n h m e =
    let front = take n xs in
    let inside : length ys ≤ length front = omega (arith, length-take-le n xs m) in
    ap (λ o. o ++ drop n xs) e
    ∙ append_assoc ys (drop (length ys) front) (drop n xs)
    ∙ ap (λ r. ys ++ r) (sym (drop-append-le (length ys) front (drop n xs) inside) ∙ ap (drop (length ys)) (take-append-drop n xs))
