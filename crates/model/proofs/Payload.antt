-- The payloads along a chain: sound one after another, so no two of their places are alike.
use Rattle.std.proofs.Common.{◌≡◌, ℕ, zero, suc, ◌+◌, ◌<◌, true, false, not, ltb, List, [], ◌∷◌, ◌++◌, length, get_or, refl, append_assoc, append-nil, arith, length-append}
use lib.ListN.{get_or-append}
use Rattle.std.proofs.lemmas.Bool.{both_ways, and_parts, and_from, not-true, ltb-true}
use Rattle.model.specs.Setup.{Plan, Lawful}
use Rattle.model.specs.World.{World, block, notarization, chain, places_of, unlike_all, sound, valid_at, notarized_at}
use Rattle.model.specs.Promises.{NoTwoAlike}
use Rattle.model.proofs.Growth.{places_of_append}

module _ (p : Plan) where
  unlike_at : (x : ℕ) (ys : List ℕ) → unlike_all p x ys ≡ true → (i : ℕ) → i < length ys → p.like x (get_or ys i 0) ≡ false
  unlike_at x [] h i l = absurd (omega arith)
  unlike_at x (y ∷ ys) h zero l = not-true (p.like x y) (and_parts (not (p.like x y)) _ h).0
  unlike_at x (y ∷ ys) h (suc i) l = unlike_at x ys (and_parts (not (p.like x y)) _ h).1 i (omega arith)

  -- sound in two parts is sound as a whole
  sound_append : (zs ys xs : List ℕ) → sound p zs ys ≡ true → sound p (zs ++ ys) xs ≡ true → sound p zs (ys ++ xs) ≡ true
  sound_append zs [] xs h h' = rw append-nil at h'
  sound_append zs (y ∷ ys) xs h h' =
      let h₁ = and_parts (ltb y p.entries) _ h in
      let h₂ = and_parts (unlike_all p y zs) _ h₁.1 in
      and_from _ _ h₁.0 (and_from _ _ h₂.0 (sound_append (zs ++ (y ∷ [])) ys xs h₂.1 (rw append_assoc h')))

  -- each place is in the entry table, and like none before it
  sound_at : (ys xs : List ℕ) → sound p ys xs ≡ true → (j : ℕ) → j < length xs →
      (get_or xs j 0 < p.entries) × ((i : ℕ) → i < length ys + j → p.like (get_or xs j 0) (get_or (ys ++ xs) i 0) ≡ false)
  sound_at ys [] h j l = absurd (omega arith)
  sound_at ys (x ∷ xs) h zero l =
      let h₁ = and_parts (ltb x p.entries) _ h in
      let h₂ = and_parts (unlike_all p x ys) _ h₁.1 in (
        ltb-true x p.entries h₁.0,
        λ i l₁. let l₂ : i < length ys = omega arith in rw (get_or-append ys (x ∷ xs) 0 i l₂) (unlike_at x ys h₂.0 i l₂),
      )
  sound_at ys (x ∷ xs) h (suc j) l =
      let h₁ = and_parts (ltb x p.entries) _ h in
      let h₂ = and_parts (unlike_all p x ys) _ h₁.1 in
      let r = sound_at (ys ++ (x ∷ [])) xs h₂.1 j (omega arith) in
      (r.0, λ i l₁. rw append_assoc at (r.1 i (omega (arith, length-append ys (x ∷ [])))))

  pub sound_alone : Lawful p → (xs : List ℕ) → sound p [] xs ≡ true → NoTwoAlike p xs
  sound_alone law xs h i j l lj alike =
      let rj = sound_at [] xs h j lj in
      let ri = sound_at [] xs h i (omega arith) in
      both_ways _ (rj.1 i (omega arith)) (law.like_back (get_or xs i 0) (get_or xs j 0) ri.0 rj.0 alike)

  module _ (w : World) (s : ℕ) where
    one_more_sound : (k b : ℕ) → (notarized_at p w s k (w.parent b) ≡ true → sound p [] (places_of w (chain w k (w.parent b))) ≡ true) →
        valid_at p w s (suc k) b ≡ true → sound p [] (places_of w (chain w (suc k) b)) ≡ true
    one_more_sound k b below h =
        let h₁ = and_parts (w.pool s (block b)) _ h in
        let h₂ = and_parts (notarized_at p w s k (w.parent b)) _ h₁.1 in
        rw (places_of_append w (chain w k (w.parent b)) (b ∷ []), append-nil)
        (sound_append [] (places_of w (chain w k (w.parent b))) (w.places b) (below h₂.0) h₂.1)

    notarized_sound : (k b : ℕ) → notarized_at p w s k b ≡ true → sound p [] (places_of w (chain w k b)) ≡ true
    notarized_sound zero b h = refl
    notarized_sound (suc k) b h =
        one_more_sound k b (notarized_sound k (w.parent b)) (and_parts (valid_at p w s (suc k) b) (w.pool s (notarization b)) h).0

    pub valid_sound : (k b : ℕ) → valid_at p w s k b ≡ true → sound p [] (places_of w (chain w k b)) ≡ true
    valid_sound zero b h = refl
    valid_sound (suc k) b h = one_more_sound k b (notarized_sound k (w.parent b)) h
