-- Lemmas on the lines of a text: the first of them, and where the next begins.
use Rattle.std.proofs.Common.{◌≡◌, ℕ, zero, suc, ◌+◌, ◌-◌, ◌<◌, ◌≤◌, Bool, true, false, cond, not, ◌||◌, eqb, ltb, Option, Some, None, ◌≢◌, List, [], ◌∷◌, ◌++◌, length, get_or, drop, sym, refl, ap, ◌∙◌, append_assoc, append-nil, arith}
use Rattle.std.proofs.lemmas.Bool.Decides.{nat_tests}
use Rattle.std.proofs.lemmas.List.{at_drop_more, drop_all}
use Rattle.std.specs.List.{position, position_or_len}
use Rattle.lines.specs.Lines.{line_bytes, none, lines_after, lines, later}

-- the characters of the first line, and whether it has its line feed
abbrev pub first_line : List ℕ → List ℕ
first_line [] = []
first_line (x ∷ xs) = cond (eqb x 10) [] (x ∷ first_line xs)

abbrev pub ended : List ℕ → Bool
ended [] = false
ended (x ∷ xs) = eqb x 10 || ended xs

-- the bytes of the first line
abbrev pub first_bytes : List ℕ → List ℕ
first_bytes s = cond (ended s) (line_bytes (first_line s)) []

-- the line feed is here, or further on
module _ (text : List ℕ) (i : ℕ) (h : i < length text) where
  pub feed_here : get_or text i 0 ≡ 10 → later (drop i text) ≡ drop (i + 1) text
  feed_here e =
      at_drop_more later text i 0 h
      ∙ let z : eqb (get_or text i 0) 10 ≡ true = grind (arith, nat_tests) in ap (λ b. cond b (drop (i + 1) text) (later (drop (i + 1) text))) z

  pub feed_later : get_or text i 0 ≢ 10 → later (drop i text) ≡ later (drop (i + 1) text)
  feed_later e =
      at_drop_more later text i 0 h
      ∙ let z : eqb (get_or text i 0) 10 ≡ false = grind (arith, nat_tests) in ap (λ b. cond b (drop (i + 1) text) (later (drop (i + 1) text))) z

unroll : (sofar s : List ℕ) → lines_after sofar s
    ≡ cond (ended s) (line_bytes (sofar ++ first_line s) ∷ lines (later s)) (cond (none (sofar ++ s)) [] ([] ∷ []))
unroll sofar [] = ap (λ r. cond (none r) [] ([] ∷ [])) (sym (append-nil sofar))
unroll sofar (x ∷ xs) =
    elim (eqb x 10) as (λ b. cond b (line_bytes sofar ∷ lines xs) (lines_after (sofar ++ x ∷ []) xs)
    ≡ cond (b || ended xs) (line_bytes (sofar ++ cond b [] (x ∷ first_line xs)) ∷ lines (cond b xs (later xs))) (cond (none (sofar ++ x ∷ xs)) [] ([] ∷ []))) [
      | true ↦ ap (λ r. line_bytes r ∷ lines xs) (sym (append-nil sofar))
      | false ↦ unroll (sofar ++ x ∷ []) xs
          ∙ ap (λ r. cond (ended xs) (line_bytes r ∷ lines (later xs)) (cond (none (sofar ++ x ∷ [] ++ xs)) [] ([] ∷ []))) (append_assoc sofar (x ∷ []) (first_line xs))
          ∙ ap (λ r. cond (ended xs) (line_bytes (sofar ++ x ∷ first_line xs) ∷ lines (later xs)) (cond (none r) [] ([] ∷ []))) (append_assoc sofar (x ∷ []) xs)
    ]

-- nothing follows a line without a line feed
later_none : (s : List ℕ) → ended s ≡ false → later s ≡ []
later_none [] e = refl
later_none (x ∷ xs) e =
    let a : eqb x 10 ≡ false = grind (arith, nat_tests) in
    let b : ended xs ≡ false = grind (arith, nat_tests) in
    ap (λ b. cond b xs (later xs)) a ∙ later_none xs b

-- a text that is not empty is its first line and the lines behind it
pub lines_first : (s : List ℕ) → 0 < length s → lines s ≡ first_bytes s ∷ lines (later s)
lines_first [] h = absurd (omega arith)
lines_first (x ∷ xs) h = unroll [] (x ∷ xs) ∙ by_end (ended (x ∷ xs)) refl
  where
    s : List ℕ
    s = x ∷ xs

    by_end : (b : Bool) → ended s ≡ b → cond b (line_bytes (first_line s) ∷ lines (later s)) ([] ∷ []) ≡ cond b (line_bytes (first_line s)) [] ∷ lines (later s)
    by_end true e = refl
    by_end false e = ap (λ r. [] ∷ lines r) (sym (later_none s e))

-- less is left behind a line
pub later_shorter : (s : List ℕ) → length (later s) ≤ length s - 1
later_shorter [] = omega arith
later_shorter (x ∷ xs) = by (eqb x 10) (later_shorter xs)
  where
    by : (b : Bool) → length (later xs) ≤ length xs - 1 → length (cond b xs (later xs)) ≤ suc (length xs) - 1
    by true h = omega arith
    by false h = omega arith

-- a line feed stands inside the text
pub feed_inside : (text : List ℕ) (i : ℕ) → get_or text i 0 ≡ 10 → i < length text
feed_inside [] i e = absurd (omega (arith, e))
feed_inside (x ∷ xs) zero e = omega arith
feed_inside (x ∷ xs) (suc i) e = let h = feed_inside xs i e in omega arith

-- what follows the first line feed, by its place: nothing where there is none
later_is : (s : List ℕ) → later s ≡ drop (position_or_len (λ c. eqb c 10) s + 1) s
later_is [] = refl
later_is (x ∷ xs) = by (eqb x 10) (later_is xs)
  where
    by : (b : Bool) → later xs ≡ drop (position_or_len (λ c. eqb c 10) xs + 1) xs
        → cond b xs (later xs) ≡ drop (cond (not b) (1 + position_or_len (λ c. eqb c 10) xs) 0 + 1) (x ∷ xs)
    by true h = refl
    by false h =
        let i = position_or_len (λ c. eqb c 10) xs in
        let k : suc (i + 1) ≡ 1 + i + 1 = omega arith in
        h ∙ ap (λ j. drop j (x ∷ xs)) k

pub later_behind : (s : List ℕ) (i : ℕ) → Some i ≡ position (λ c. eqb c 10) s → later s ≡ drop (i + 1) s
later_behind s i e = by (ltb (position_or_len (λ c. eqb c 10) s) (length s)) e
  where
    by : (b : Bool) → Some i ≡ cond b (Some (position_or_len (λ c. eqb c 10) s)) None → later s ≡ drop (i + 1) s
    by true h = let k : position_or_len (λ c. eqb c 10) s ≡ i = cc in later_is s ∙ ap (λ j. drop (j + 1) s) k
    by false h = cc

pub later_nowhere : (s : List ℕ) → None ≡ position (λ c. eqb c 10) s → later s ≡ []
later_nowhere s e = by (ltb (position_or_len (λ c. eqb c 10) s) (length s)) refl e
  where
    by : (b : Bool) → ltb (position_or_len (λ c. eqb c 10) s) (length s) ≡ b → ◌≡◌ {A = Option ℕ} None (cond b (Some (position_or_len (λ c. eqb c 10) s)) None) → later s ≡ []
    by true z h = cc
    by false z h = later_is s ∙ drop_all (position_or_len (λ c. eqb c 10) s + 1) s (grind (arith, nat_tests))
