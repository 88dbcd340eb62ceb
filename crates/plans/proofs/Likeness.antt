-- The likeness that a table of entries and its rows of bits say.
use Rattle.std.proofs.Common.{◌≡◌, ℕ, zero, suc, ◌+◌, ◌<◌, ◌≤◌, Bool, true, ◌&&◌, ltb, List, [], ◌∷◌, length, get_or, Some, None, sym, refl, ap, ◌∙◌, ap₂, ⊎_elim, arith}
use Rattle.std.proofs.lemmas.Bool.{cases_eq, cases_lt, lt-ltb, le-ltb}
use Rattle.plans.specs.Tables.{like_in, LikeSelf, LikeBack}
use Rattle.std.specs.List.{slice_get}
use Rattle.std.proofs.lemmas.Option.{slice_get_read}
use Rattle.plans.specs.Setup.{both_alike, places_alike}

-- what stands at a place of the list
pub entry_there : {E : Type 0} (xs : List E) (i : ℕ) (r : E) → i < length xs → r ≡ get_or xs i r → slice_get xs i ≡ Some r
entry_there xs i r h e = slice_get_read xs (length xs) i r refl h e

pub entry_past : {E : Type 0} (xs : List E) (i : ℕ) → length xs ≤ i → slice_get xs i ≡ None
entry_past [] i h = refl
entry_past (x ∷ xs) zero h = absurd (omega arith)
entry_past (x ∷ xs) (suc i) h = entry_past xs i (omega arith)

-- an entry and one at a place of the list
pub alike_there : {E : Type 0} (alike : E → E → Bool) (xs : List E) (a b : E) (j : ℕ) → j < length xs → b ≡ get_or xs j b → both_alike alike (Some a) (slice_get xs j) ≡ alike a b
alike_there alike xs a b j h e = ap (both_alike alike (Some a)) (entry_there xs j b h e)

-- a row of bits, with the place j looked at
pub row_next : (m after P : ℕ → Bool) (j : ℕ) → ((k : ℕ) → m k ≡ (ltb k j && P k)) → after j ≡ P j → ((k : ℕ) → (j ≡ k → ⊥) → after k ≡ m k)
    → (k : ℕ) → after k ≡ (ltb k (j + 1) && P k)
row_next m after P j row here there k =
    ⊎_elim
    (λ (e : j ≡ k). ap after (sym e) ∙ here ∙ ap P e ∙ sym (ap (λ b. b && P k) (lt-ltb k (j + 1) (omega arith))))
    (λ (ne : j ≡ k → ⊥). there k ne ∙ row k ∙ ap (λ b. b && P k) (past ne))
    (cases_eq j k)
  where
    past : (j ≡ k → ⊥) → ltb k j ≡ ltb k (j + 1)
    past ne = ⊎_elim (λ (lt : k < j). lt-ltb k j lt ∙ sym (lt-ltb k (j + 1) (omega arith))) (λ (le : j ≤ k). le-ltb k j le ∙ sym (le-ltb k (j + 1) (omega arith))) (cases_lt k j)

some_entry : {E : Type 0} (xs : List E) (i : ℕ) → i < length xs → (r : E) × (slice_get xs i ≡ Some r)
some_entry [] i h = absurd (omega arith)
some_entry (x ∷ xs) zero h = (x, refl)
some_entry (x ∷ xs) (suc i) h = some_entry xs i (omega arith)

-- the laws of likeness, as rows of bits keep them
module _ {E : Type 0} (alike : E → E → Bool) (xs : List E) (rows : List ℕ) (say : like_in (length xs) rows ≡ places_alike alike xs) where
  pub rows_self : ((x : E) → alike x x ≡ true) → LikeSelf (length xs) rows
  rows_self same q =
      let a = some_entry xs q.one q.one_low in
      ap (λ f. f q.one q.one) say ∙ ap (λ o. both_alike alike o o) a.1 ∙ same a.0

  pub rows_back : ((x y : E) → alike x y ≡ true → alike y x ≡ true) → LikeBack (length xs) rows
  rows_back turned q e =
      let a = some_entry xs q.one q.one_low in
      let b = some_entry xs q.other q.other_low in
      let there : alike a.0 b.0 ≡ true = sym (ap (λ f. f q.one q.other) say ∙ ap₂ (both_alike alike) a.1 b.1) ∙ e in
      ap (λ f. f q.other q.one) say ∙ ap₂ (both_alike alike) b.1 a.1 ∙ turned a.0 b.0 there
