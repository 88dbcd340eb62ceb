-- Lemmas on the pairs of digits that a text begins with: they are the first line if a line feed follows, and else that line says nothing.
use Rattle.std.proofs.Common.{◌≡◌, ℕ, zero, suc, ◌+◌, ◌*◌, ◌<◌, ◌≤◌, Bool, true, false, cond, not, ◌&&◌, ◌||◌, eqb, ltb, leb, ◌≢◌, List, [], ◌∷◌, ◌++◌, length, get_or, drop, Option, Some, None, is_some, unwrap_or, option_map, option_and_then, sym, refl, ap, ◌∙◌, append_assoc, append-nil, add-zero, add-one, arith, get_or-drop, drop-drop}
use Rattle.std.proofs.lemmas.Bool.Decides.{nat_tests}
use Rattle.std.proofs.lemmas.Bool.{le-leb, lt-ltb}
use Rattle.lines.specs.Lines.{digit, pair, paired, bytes, line_bytes, lines, later, leading_bytes}
use Rattle.lines.proofs.LineLaws.{first_line, ended, first_bytes, lines_first}

no_feed : (x : ℕ) → x ≢ 10 → eqb x 10 ≡ false
no_feed x e = grind (arith, nat_tests)

-- no line feed is in a pair of digits
module _ (x y b : ℕ) (e : pair x y ≡ Some b) where
  first_digit : eqb x 10 ≡ false
  first_digit = no_feed x (λ h. let z : pair x y ≡ None = ap (λ c. pair c y) h in cc)

  second_digit : eqb y 10 ≡ false
  second_digit = no_feed y (λ h. let z : pair x y ≡ None = ap (pair x) h ∙ none (digit x) in cc)
    where
      none : (o : Option ℕ) → option_and_then (λ high. option_map (λ low. high * 16 + low) (digit 10)) o ≡ None
      none None = refl
      none (Some high) = refl

-- the first line of a text is the pairs that it begins with
pub record IsLine (s p : List ℕ) : Type 0 where
  pub has_end : ended s ≡ true
  pub is_paired : paired (first_line s) ≡ true
  pub bytes_are : bytes (first_line s) ≡ p
  pub length_is : length (first_line s) ≡ 2 * length p
  pub later_is : later s ≡ drop (suc (2 * length p)) s

-- an empty line
empty : (x : ℕ) (xs : List ℕ) → x ≡ 10 → IsLine (x ∷ xs) []
empty x xs e = let z : eqb x 10 ≡ true = grind (arith, nat_tests) in record {
  has_end = ap (λ b. b || ended xs) z;
  is_paired = ap (λ b. paired (cond b [] (x ∷ first_line xs))) z;
  bytes_are = ap (λ b. bytes (cond b [] (x ∷ first_line xs))) z;
  length_is = ap (λ b. length (cond b [] (x ∷ first_line xs))) z;
  later_is = ap (λ b. cond b xs (later xs)) z;
}

-- two digits before a text
module _ (x y b : ℕ) (s : List ℕ) (e : pair x y ≡ Some b) where
  first_two : first_line (x ∷ y ∷ s) ≡ x ∷ y ∷ first_line s
  first_two = ap (λ c. cond c [] (x ∷ first_line (y ∷ s))) (first_digit x y b e) ∙ ap (λ c. x ∷ cond c [] (y ∷ first_line s)) (second_digit x y b e)

  ended_two : ended (x ∷ y ∷ s) ≡ ended s
  ended_two = ap (λ c. c || (eqb y 10 || ended s)) (first_digit x y b e) ∙ ap (λ c. c || ended s) (second_digit x y b e)

  paired_two : paired (first_line (x ∷ y ∷ s)) ≡ paired (first_line s)
  paired_two = ap paired first_two ∙ ap (λ o. is_some o && paired (first_line s)) e

  later_two : later (x ∷ y ∷ s) ≡ later s
  later_two = ap (λ c. cond c (y ∷ s) (later (y ∷ s))) (first_digit x y b e) ∙ ap (λ c. cond c s (later s)) (second_digit x y b e)

  two_more : (p : List ℕ) → IsLine s p → IsLine (x ∷ y ∷ s) (b ∷ p)
  two_more p l = record {
    has_end = ended_two ∙ l.has_end;
    is_paired = paired_two ∙ l.is_paired;
    bytes_are = ap bytes first_two ∙ ap (λ o. unwrap_or o 0 ∷ bytes (first_line s)) e ∙ ap (λ r. b ∷ r) l.bytes_are;
    length_is = ap length first_two ∙ omega (arith, l.length_is);
    later_is = later_two ∙ l.later_is ∙ (let k : suc (suc (suc (2 * length p))) ≡ suc (2 * suc (length p)) = omega arith in ap (λ j. drop j (x ∷ y ∷ s)) k);
  }

-- what a pair of characters does to the text behind it
module _ (k x y : ℕ) (r : List ℕ) where
  abbrev next_bytes : Option ℕ → List ℕ
  next_bytes o = elim o [
    | Some b ↦ b ∷ leading_bytes k r
    | None ↦ []
  ]

  line_step : (get_or r (2 * length (leading_bytes k r)) 0 ≡ 10 → IsLine r (leading_bytes k r)) → (o : Option ℕ) → pair x y ≡ o
      → get_or (x ∷ y ∷ r) (2 * length (next_bytes o)) 0 ≡ 10 → IsLine (x ∷ y ∷ r) (next_bytes o)
  line_step more (Some b) e g =
      let j : 2 * suc (length (leading_bytes k r)) ≡ suc (suc (2 * length (leading_bytes k r))) = omega arith in
      two_more x y b r e (leading_bytes k r) (more (sym (ap (λ i. get_or (x ∷ y ∷ r) i 0) j) ∙ g))
  line_step more None e g = empty x (y ∷ r) g

-- a line feed follows
pub is_line : (k : ℕ) (s : List ℕ) → get_or s (2 * length (leading_bytes k s)) 0 ≡ 10 → IsLine s (leading_bytes k s)
is_line zero [] e = absurd (grind (arith, nat_tests))
is_line (suc k) [] e = absurd (grind (arith, nat_tests))
is_line zero (x ∷ xs) e = empty x xs e
is_line (suc k) (x ∷ []) e = empty x [] e
is_line (suc k) (x ∷ y ∷ r) e = line_step k x y r (is_line k r) (pair x y) refl e

-- the first line says nothing: it has no line feed, is not in pairs, or has more than k bytes
abbrev silent_by : Bool → Bool → ℕ → ℕ → Bool
silent_by e p n k = not e || (not p || ltb (2 * k) n)

abbrev silent : ℕ → List ℕ → Bool
silent k s = silent_by (ended s) (paired (first_line s)) (length (first_line s)) k

silent_two : (x y b k : ℕ) (s : List ℕ) → pair x y ≡ Some b → silent (suc k) (x ∷ y ∷ s) ≡ silent k s
silent_two x y b k s e =
    ap (λ c. silent_by c (paired (first_line (x ∷ y ∷ s))) (length (first_line (x ∷ y ∷ s))) (suc k)) (ended_two x y b s e)
    ∙ ap (λ c. silent_by (ended s) c (length (first_line (x ∷ y ∷ s))) (suc k)) (paired_two x y b s e)
    ∙ ap (λ l. silent_by (ended s) (paired (first_line s)) (length l) (suc k)) (first_two x y b s e)
    ∙ ap (λ c. not (ended s) || (not (paired (first_line s)) || c)) (less (length (first_line s)))
  where
    less : (n : ℕ) → ltb (2 * suc k) (suc (suc n)) ≡ ltb (2 * k) n
    less n = grind (arith, nat_tests)

last_holds : (a b c : Bool) → c ≡ true → (a || (b || c)) ≡ true
last_holds true b c h = refl
last_holds false true c h = refl
last_holds false false c h = h

-- a text that begins with another character than a line feed has a first line of at least that one
silent_start : (x : ℕ) (xs : List ℕ) → x ≢ 10 → silent zero (x ∷ xs) ≡ true
silent_start x xs e =
    let line : length (first_line (x ∷ xs)) ≡ suc (length (first_line xs)) = ap (λ b. length (cond b [] (x ∷ first_line xs))) (no_feed x e) in
    last_holds (not (ended (x ∷ xs))) (not (paired (first_line (x ∷ xs)))) _ (lt-ltb (2 * zero) (length (first_line (x ∷ xs))) (omega (arith, line)))

second : (a c : Bool) → (not a || (true || c)) ≡ true
second true c = refl
second false c = refl

-- two characters that are no pair: the first line has no line feed, or is not in pairs
no_pair : (x y : ℕ) (r : List ℕ) (k : ℕ) → pair x y ≡ None → x ≢ 10 → silent k (x ∷ y ∷ r) ≡ true
no_pair x y r k e h =
    ap (λ c. silent_by (c || (eqb y 10 || ended r)) (paired (cond c [] (x ∷ cond (eqb y 10) [] (y ∷ first_line r)))) (length (cond c [] (x ∷ cond (eqb y 10) [] (y ∷ first_line r)))) k) (no_feed x h)
    ∙ by (eqb y 10)
  where
    by : (c : Bool) → silent_by (c || ended r) (paired (x ∷ cond c [] (y ∷ first_line r))) (length (x ∷ cond c [] (y ∷ first_line r))) k ≡ true
    by true = second true (ltb (2 * k) 1)
    by false = ap (λ o. silent_by (ended r) (is_some o && paired (first_line r)) (suc (suc (length (first_line r)))) k) e ∙ second (ended r) (ltb (2 * k) (suc (suc (length (first_line r)))))

silent_step : (k x y : ℕ) (r : List ℕ) → (get_or r (2 * length (leading_bytes k r)) 0 ≢ 10 → silent k r ≡ true) → (o : Option ℕ) → pair x y ≡ o
    → get_or (x ∷ y ∷ r) (2 * length (next_bytes k x y r o)) 0 ≢ 10 → silent (suc k) (x ∷ y ∷ r) ≡ true
silent_step k x y r more (Some b) e g =
    let j : 2 * suc (length (leading_bytes k r)) ≡ suc (suc (2 * length (leading_bytes k r))) = omega arith in
    silent_two x y b k r e ∙ more (λ h. g (ap (λ i. get_or (x ∷ y ∷ r) i 0) j ∙ h))
silent_step k x y r more None e g = no_pair x y r (suc k) e g

no_line : (k : ℕ) (s : List ℕ) → get_or s (2 * length (leading_bytes k s)) 0 ≢ 10 → silent k s ≡ true
no_line k [] e = refl
no_line zero (x ∷ xs) e = silent_start x xs e
no_line (suc k) (x ∷ []) e = grind (arith, nat_tests)
no_line (suc k) (x ∷ y ∷ r) e = silent_step k x y r (no_line k r) (pair x y) refl e

-- no line feed follows: the first line has no bytes
pub no_bytes : (s : List ℕ) → get_or s (2 * length (leading_bytes 16 s)) 0 ≢ 10 → first_bytes s ≡ []
no_bytes s e = by (ended s) (paired (first_line s)) (length (first_line s)) (bytes (first_line s)) (no_line 16 s e)
  where
    by : (e p : Bool) (n : ℕ) (bs : List ℕ) → silent_by e p n 16 ≡ true → cond e (cond (leb n 32 && p) bs []) [] ≡ []
    by false p n bs h = refl
    by true false n bs h = grind (arith, nat_tests)
    by true true n bs h = let z : leb n 32 ≡ false = grind (arith, nat_tests) in ap (λ b. cond (b && true) bs []) z

-- at most so many bytes
pub few_bytes : (k : ℕ) (s : List ℕ) → length (leading_bytes k s) ≤ k
few_bytes zero s = omega arith
few_bytes (suc k) [] = omega arith
few_bytes (suc k) (x ∷ []) = omega arith
few_bytes (suc k) (x ∷ y ∷ r) = by (pair x y) (few_bytes k r)
  where
    by : (o : Option ℕ) → length (leading_bytes k r) ≤ k → length (next_bytes k x y r o) ≤ suc k
    by (Some b) h = omega arith
    by None h = omega arith

-- a line feed follows: the first line has these bytes
pub line_has : (s : List ℕ) → get_or s (2 * length (leading_bytes 16 s)) 0 ≡ 10 → first_bytes s ≡ leading_bytes 16 s
line_has s e =
    let l = is_line 16 s e in
    let z : leb (length (first_line s)) 32 ≡ true = le-leb (length (first_line s)) 32 (omega (arith, l.length_is, few_bytes 16 s)) in
    ap (λ b. cond b (line_bytes (first_line s)) []) l.has_end
    ∙ ap (λ b. cond (b && paired (first_line s)) (bytes (first_line s)) []) z
    ∙ ap (λ b. cond b (bytes (first_line s)) []) l.is_paired
    ∙ l.bytes_are

-- the line feed of the first line is not among its pairs
pub later_past : (k : ℕ) (s : List ℕ) → later s ≡ later (drop (2 * length (leading_bytes k s)) s)
later_past zero s = refl
later_past (suc k) [] = refl
later_past (suc k) (x ∷ []) = refl
later_past (suc k) (x ∷ y ∷ r) = by (pair x y) refl (later_past k r)
  where
    by : (o : Option ℕ) → pair x y ≡ o → later r ≡ later (drop (2 * length (leading_bytes k r)) r)
        → later (x ∷ y ∷ r) ≡ later (drop (2 * length (next_bytes k x y r o)) (x ∷ y ∷ r))
    by (Some b) e h =
        let j : suc (suc (2 * length (leading_bytes k r))) ≡ 2 * suc (length (leading_bytes k r)) = omega arith in
        later_two x y b r e ∙ h ∙ ap (λ i. later (drop i (x ∷ y ∷ r))) j
    by None e h = refl

-- Reading, a pair at a time: bs was read, and so many pairs may still be.
module _ (all bs s : List ℕ) (k : ℕ) (inv : all ≡ bs ++ leading_bytes k s) where
  pub one_read : (b j : ℕ) → k ≡ suc j → 2 ≤ length s → pair (get_or s 0 0) (get_or s 1 0) ≡ Some b → all ≡ (bs ++ b ∷ []) ++ leading_bytes j (drop 2 s)
  one_read b j e h p = inv ∙ ap (λ i. bs ++ leading_bytes i s) e ∙ ap (λ r. bs ++ r) (by s h p) ∙ sym (append_assoc bs (b ∷ []) (leading_bytes j (drop 2 s)))
    where
      by : (t : List ℕ) → 2 ≤ length t → pair (get_or t 0 0) (get_or t 1 0) ≡ Some b → leading_bytes (suc j) t ≡ b ∷ leading_bytes j (drop 2 t)
      by [] g q = absurd (omega arith)
      by (x ∷ []) g q = absurd (omega arith)
      by (x ∷ y ∷ r) g q = ap (next_bytes j x y r) q

  all_read : leading_bytes k s ≡ [] → bs ≡ all
  all_read e = sym (inv ∙ ap (λ r. bs ++ r) e ∙ append-nil bs)

  -- sixteen bytes, too little for a pair, or no pair
  pub no_more : k ≡ 0 → bs ≡ all
  no_more e = all_read (ap (λ i. leading_bytes i s) e)

  pub no_room : length s < 2 → bs ≡ all
  no_room h = all_read (by k s h)
    where
      by : (i : ℕ) (t : List ℕ) → length t < 2 → leading_bytes i t ≡ []
      by zero t g = refl
      by (suc i) [] g = refl
      by (suc i) (x ∷ []) g = refl
      by (suc i) (x ∷ y ∷ r) g = absurd (omega arith)

  pub no_pair_here : 2 ≤ length s → pair (get_or s 0 0) (get_or s 1 0) ≡ None → bs ≡ all
  no_pair_here h e = all_read (by k s h e)
    where
      by : (i : ℕ) (t : List ℕ) → 2 ≤ length t → pair (get_or t 0 0) (get_or t 1 0) ≡ None → leading_bytes i t ≡ []
      by zero t g q = refl
      by (suc i) [] g q = absurd (omega arith)
      by (suc i) (x ∷ []) g q = absurd (omega arith)
      by (suc i) (x ∷ y ∷ r) g q = ap (next_bytes i x y r) q

-- The first line of a text, by what stands behind the pairs that it begins with: a line feed, or not.
module _ (s rest : List ℕ) (h : 0 < length s) (is : rest ≡ drop (2 * length (leading_bytes 16 s)) s) where
  first_behind : get_or rest 0 0 ≡ get_or s (2 * length (leading_bytes 16 s)) 0
  first_behind = ap (λ r. get_or r 0 0) is ∙ get_or-drop (2 * length (leading_bytes 16 s)) s 0 0 ∙ ap (λ k. get_or s k 0) (add-zero (2 * length (leading_bytes 16 s)))

  pub line_read : get_or rest 0 0 ≡ 10 → lines s ≡ leading_bytes 16 s ∷ lines (drop 1 rest)
  line_read e =
      let n = 2 * length (leading_bytes 16 s) in
      let f : get_or s n 0 ≡ 10 = sym first_behind ∙ e in
      lines_first s h
      ∙ ap (λ r. r ∷ lines (later s)) (line_has s f)
      ∙ ap (λ r. leading_bytes 16 s ∷ lines r) ((is_line 16 s f).later_is ∙ sym (ap (drop 1) is ∙ drop-drop 1 n s ∙ ap (λ k. drop k s) (add-one n)))

  pub line_lost : get_or rest 0 0 ≢ 10 → lines s ≡ [] ∷ lines (later rest)
  line_lost e =
      lines_first s h
      ∙ ap (λ r. r ∷ lines (later s)) (no_bytes s (λ f. e (first_behind ∙ f)))
      ∙ ap (λ r. [] ∷ lines r) (later_past 16 s ∙ ap later (sym is))
