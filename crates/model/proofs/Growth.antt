-- What only grows from one state to a later one, and what then stays: chains, payloads, validity, a block's backing.
use Rattle.std.proofs.Common.{◌≡◌, ℕ, zero, suc, ◌+◌, ◌-◌, ◌%◌, ◌<◌, ◌≤◌, Bool, true, ◌⊎◌, List, [], ◌∷◌, ◌++◌, refl, ap, ◌∙◌, inl, inr, append_assoc, arith}
use Rattle.std.proofs.lemmas.Bool.{and_parts, and_from}
use Rattle.model.specs.Setup.{Plan, round_of, numbers}
use Rattle.model.specs.World.{World, Message, block, notarization, shares, chain, places_of, sound, valid_at, notarized_at}
use Rattle.model.proofs.Counting.{tally_grows}
use Rattle.model.proofs.Accepted.{Known}

pub record Grows (w v : World) : Type 0 where
  pub made_stays : (b : ℕ) → w.made b ≡ true → v.made b ≡ true
  pub parent_stays : (b : ℕ) → w.made b ≡ true → v.parent b ≡ w.parent b
  pub places_stay : (b : ℕ) → w.made b ≡ true → v.places b ≡ w.places b
  pub seals_stay : (k s x : ℕ) → w.sealed k s x ≡ true → v.sealed k s x ≡ true
  pub pools_stay : (s : ℕ) (m : Message) → w.pool s m ≡ true → v.pool s m ≡ true
  pub posts_stay : (m : Message) → w.posted m ≡ true → v.posted m ≡ true

pub grows_none : (w : World) → Grows w w
grows_none w = record {
  made_stays = λ b h. h;
  parent_stays = λ b h. refl;
  places_stay = λ b h. refl;
  seals_stay = λ k s x h. h;
  pools_stay = λ s m h. h;
  posts_stay = λ m h. h;
}

pub grows_more : (u v w : World) → Grows u v → Grows v w → Grows u w
grows_more u v w g h = record {
  made_stays = λ b e. h.made_stays b (g.made_stays b e);
  parent_stays = λ b e. h.parent_stays b (g.made_stays b e) ∙ g.parent_stays b e;
  places_stay = λ b e. h.places_stay b (g.made_stays b e) ∙ g.places_stay b e;
  seals_stay = λ k s x e. h.seals_stay k s x (g.seals_stay k s x e);
  pools_stay = λ s m e. h.pools_stay s m (g.pools_stay s m e);
  posts_stay = λ m e. h.posts_stay m (g.posts_stay m e);
}

pub shares_grow : (w v : World) → Grows w v → (n k b : ℕ) → shares w n k b ≤ shares v n k b
shares_grow w v g n k b = tally_grows (λ s. w.sealed k s b) (λ s. v.sealed k s b) n (λ s l h. g.seals_stay k s b h)

pub places_of_append : (w : World) (xs ys : List ℕ) → places_of w (xs ++ ys) ≡ places_of w xs ++ places_of w ys
places_of_append w [] ys = refl
places_of_append w (x ∷ xs) ys = rw (places_of_append w xs ys, append_assoc)

-- What is so of every made block.
pub record BlockOk (p : Plan) (w : World) (b : ℕ) : Type 0 where
  pub first : 1 ≤ b
  pub last : b < numbers p
  pub parent_known : Known w (w.parent b)
  pub parent_round : round_of p (w.parent b) + 1 ≡ round_of p b
  -- the maker's variants of a round are made in their order
  pub variants_before : ((b - 1) % 3 ≡ 0 → ⊥) → w.made (b - 1) ≡ true

abbrev pub BlocksOk : Plan → World → Type 0
BlocksOk p w = (b : ℕ) → w.made b ≡ true → BlockOk p w b

abbrev pub payload_sound : Plan → World → ℕ → Bool
payload_sound p w b = sound p (places_of w (chain w (round_of p (w.parent b)) (w.parent b))) (w.places b)

-- all that a pool needs for the block's validity was posted
pub record Backed (p : Plan) (w : World) (b : ℕ) : Type 0 where
  pub is_made : w.made b ≡ true
  pub block_posted : w.posted (block b) ≡ true
  pub parent_posted : (w.parent b ≡ 0) ⊎ (w.posted (notarization (w.parent b)) ≡ true)
  pub payload : payload_sound p w b ≡ true

module _ (p : Plan) (w v : World) (g : Grows w v) (ok : BlocksOk p w) where
  pub known_stays : (b : ℕ) → Known w b → Known v b
  known_stays b (inl e) = inl e
  known_stays b (inr m) = inr (g.made_stays b m)

  pub block_ok_stays : (b : ℕ) → w.made b ≡ true → BlockOk p v b
  block_ok_stays b m =
      let o = ok b m in
      let e = g.parent_stays b m in
      record {
        first = o.first;
        last = o.last;
        parent_known = rw e (known_stays (w.parent b) o.parent_known);
        parent_round = rw e o.parent_round;
        variants_before = λ h. g.made_stays (b - 1) (o.variants_before h);
      }

  -- the chain of a known block, and its payloads
  abbrev SameChain : ℕ → ℕ → Type 0
  SameChain k b = (chain v k b ≡ chain w k b) × (places_of v (chain w k b) ≡ places_of w (chain w k b))

  parent_level : (k b : ℕ) → w.made b ≡ true → round_of p b ≡ suc k → round_of p (w.parent b) ≡ k
  parent_level k b m r = omega (arith, (ok b m).parent_round)

  pub chain_stays : (k b : ℕ) → Known w b → round_of p b ≡ k → SameChain k b
  chain_stays zero b known r = (refl, refl)
  chain_stays (suc k) b (inl e) r = absurd (omega (arith, ap (round_of p) e))
  chain_stays (suc k) b (inr m) r =
      let ih = chain_stays k (w.parent b) (ok b m).parent_known (parent_level k b m r) in
      let ch : chain v k (v.parent b) ≡ chain w k (w.parent b) = rw (g.parent_stays b m) ih.0 in
      (rw ch, simp (places_of_append, ih.1, g.places_stay b m))

  sound_stays : (k b : ℕ) → w.made b ≡ true → round_of p (w.parent b) ≡ k →
      sound p (places_of v (chain v k (v.parent b))) (v.places b) ≡ sound p (places_of w (chain w k (w.parent b))) (w.places b)
  sound_stays k b m r =
      let same = chain_stays k (w.parent b) (ok b m).parent_known r in
      rw (g.parent_stays b m, g.places_stay b m, same.0, same.1)

  pub payload_stays : (b : ℕ) → w.made b ≡ true → payload_sound p v b ≡ payload_sound p w b
  payload_stays b m =
      ap (λ (c : ℕ). sound p (places_of v (chain v (round_of p c) (v.parent b))) (v.places b)) (g.parent_stays b m)
      ∙ sound_stays (round_of p (w.parent b)) b m refl

  pub backed_stays : (b : ℕ) → Backed p w b → Backed p v b
  backed_stays b x = record {
    is_made = g.made_stays b x.is_made;
    block_posted = g.posts_stay (block b) x.block_posted;
    parent_posted = rw (g.parent_stays b x.is_made) (elim x.parent_posted [ inl e ↦ inl e | inr h ↦ inr (g.posts_stay _ h) ]);
    payload = payload_stays b x.is_made ∙ x.payload;
  }

  -- what a pool says of a block
  module _ (s : ℕ) (pooled : (b : ℕ) → w.pool s (block b) ≡ true → w.made b ≡ true) where
    valid_more : (k b : ℕ) → ((c : ℕ) → round_of p c ≡ k → notarized_at p w s k c ≡ true → notarized_at p v s k c ≡ true) →
        round_of p b ≡ suc k → valid_at p w s (suc k) b ≡ true → valid_at p v s (suc k) b ≡ true
    valid_more k b below r h =
        let (here, rest) = and_parts (w.pool s (block b)) _ h in
        let (nt, so) = and_parts (notarized_at p w s k (w.parent b)) _ rest in
        let m = pooled b here in
        let level = parent_level k b m r in
        and_from _ _ (g.pools_stay s (block b) here)
        (and_from _ _ (rw (g.parent_stays b m) (below (w.parent b) level nt)) (sound_stays k b m level ∙ so))

    pub notarized_stays : (k b : ℕ) → round_of p b ≡ k → notarized_at p w s k b ≡ true → notarized_at p v s k b ≡ true
    notarized_stays zero b r h = h
    notarized_stays (suc k) b r h =
        let (vl, nt) = and_parts (valid_at p w s (suc k) b) (w.pool s (notarization b)) h in
        and_from _ _ (valid_more k b (notarized_stays k) r vl) (g.pools_stay s (notarization b) nt)

    pub valid_stays : (k b : ℕ) → round_of p b ≡ k → valid_at p w s k b ≡ true → valid_at p v s k b ≡ true
    valid_stays zero b r h = h
    valid_stays (suc k) b r h = valid_more k b (notarized_stays k) r h
