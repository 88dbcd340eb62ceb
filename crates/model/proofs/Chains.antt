-- One state: a final block is alone, two anchors are on one chain, and a catalogue goes on where it ended.
use Rattle.std.proofs.Common.{◌≡◌, ℕ, zero, suc, ◌<◌, ◌≤◌, true, List, [], ◌∷◌, ◌++◌, length, drop, sym, refl, ap, ◌∙◌, inl, inr, append_assoc, append-nil, arith, length-append, drop_at}
use Rattle.std.proofs.lemmas.Bool.{and_parts, cases_eq}
use Rattle.model.specs.Setup.{Plan, Lawful, quorum, round_of}
use Rattle.model.specs.World.{World, block, notarization, shares, chain, valid_at, notarized_at}
use Rattle.model.specs.Promises.{Begins}
use Rattle.model.proofs.Accepted.{acting}
use Rattle.model.proofs.Counting.{quorum_honest, quorums_meet}
use Rattle.model.proofs.Existence.{notarization_quorum}
use Rattle.model.proofs.Invariant.{Anchored, Inv}
use Rattle.model.proofs.Pools.{in_pool_made, notarized_says}

module _ (p : Plan) (w : World) (i : Inv p w) where
  module _ (l : Lawful p) where
    pub alone : (b c : ℕ) → round_of p b ≡ round_of p c → quorum p ≤ shares w p.n 4 b → quorum p ≤ shares w p.n 2 c → b ≡ c
    alone b c e h₄ h₂ =
        let m = quorums_meet p l (λ s. w.sealed 4 s b) (λ s. w.sealed 2 s c) h₄ h₂ in
        sym (((i.seats m.0 (acting m.1 m.2)).marks.last_4 b m.3).only c (sym e) m.4)

    final_supported : (b : ℕ) → quorum p ≤ shares w p.n 4 b → quorum p ≤ shares w p.n 2 b
    final_supported b h =
        let m = quorum_honest p l (λ s. w.sealed 4 s b) h in
        ((i.seats m.0 (acting m.1 m.2)).marks.last_4 b m.3).supported

  -- Down the chain of a block in a pool.
  abbrev OnChain : ℕ → ℕ → ℕ → ℕ → Type 0
  OnChain s j k b = (x : ℕ) × (notarized_at p w s j x ≡ true) × (round_of p x ≡ j) × Begins (chain w j x) (chain w k b)

  parent_level : (s k b : ℕ) → valid_at p w s (suc k) b ≡ true → round_of p b ≡ suc k → round_of p (w.parent b) ≡ k
  parent_level s k b h e =
      omega (arith, (i.blocks b (in_pool_made p w i s b (and_parts (w.pool s (block b)) _ h).0)).parent_round)

  parent_notarized : (s k b : ℕ) → valid_at p w s (suc k) b ≡ true → notarized_at p w s k (w.parent b) ≡ true
  parent_notarized s k b h = (and_parts (notarized_at p w s k (w.parent b)) _ (and_parts (w.pool s (block b)) _ h).1).0

  step_down : (s j k b : ℕ) → OnChain s j k (w.parent b) → OnChain s j (suc k) b
  step_down s j k b r =
      (r.0, r.1, r.2, (r.3.0 ++ (b ∷ []), rw (← append_assoc (chain w j r.0) r.3.0 (b ∷ []), r.3.1)))

  itself : (s j k b : ℕ) → j ≡ k → notarized_at p w s k b ≡ true → round_of p b ≡ k → OnChain s j k b
  itself s j k b z h e = rw z (b, h, e, ([], append-nil _))

  down : (s j k b : ℕ) → j ≤ k → notarized_at p w s k b ≡ true → round_of p b ≡ k → OnChain s j k b
  down s j zero b l h e = itself s j zero b (omega arith) h e
  down s j (suc k) b l h e =
      let v : valid_at p w s (suc k) b ≡ true = (and_parts (valid_at p w s (suc k) b) (w.pool s (notarization b)) h).0 in
      elim (cases_eq j (suc k)) [
        | inl z ↦ itself s j (suc k) b z h e
        | inr d ↦ step_down s j k b (down s j k (w.parent b) (omega arith) (parent_notarized s k b v) (parent_level s k b v e))
      ]

  down_valid : (s j k b : ℕ) → j < k → valid_at p w s k b ≡ true → round_of p b ≡ k → OnChain s j k b
  down_valid s j zero b l v e = absurd (omega arith)
  down_valid s j (suc k) b l v e =
      step_down s j k b (down s j k (w.parent b) (omega arith) (parent_notarized s k b v) (parent_level s k b v e))

  -- Two anchors are on one chain.
  module _ (l : Lawful p) (r s : ℕ) where
    supported : (j c : ℕ) → notarized_at p w s (suc j) c ≡ true → round_of p c ≡ suc j → quorum p ≤ shares w p.n 2 c
    supported j c h e = elim (notarized_says p w s (suc j) c h) [
      | inl z ↦ absurd (omega (arith, ap (round_of p) z))
      | inr y ↦ notarization_quorum p w c (i.pools s (notarization c) y)
    ]

    pub lower_first : (j k a b : ℕ) → j ≤ k → Anchored p w r j a → Anchored p w s k b → Begins (chain w j a) (chain w k b)
    lower_first zero k a b le A B = (chain w k b, refl)
    lower_first (suc j) k a b le A B = elim (cases_eq (suc j) k) [
      | inl z ↦
          let e : a ≡ b = alone l a b (A.level ∙ z ∙ sym B.level) (A.final (omega arith)) (final_supported l b (B.final (omega arith))) in
          ([], append-nil _ ∙ ap (chain w (suc j)) e ∙ ap (λ (m : ℕ). chain w m b) z)
      | inr d ↦
          let c = down_valid s (suc j) k b (omega arith) B.sits B.level in
          let e : a ≡ c.0 = alone l a c.0 (A.level ∙ sym c.2) (A.final (omega arith)) (supported j c.0 c.1 c.2) in
          rw e c.3
    ]

-- A chain of a block of round k has k blocks, so a catalogue goes on where it ended.
chain_length : (w : World) (k b : ℕ) → length (chain w k b) ≡ k
chain_length w zero b = refl
chain_length w (suc k) b = omega (arith, length-append (chain w k (w.parent b)) (b ∷ []), chain_length w k (w.parent b))

pub goes_on : (w : World) (j k a b : ℕ) (xs : List ℕ) → xs ≡ chain w j a → Begins (chain w j a) (chain w k b) → xs ++ drop j (chain w k b) ≡ chain w k b
goes_on w j k a b xs e z = rw (e, ← z.1, drop_at (chain w j a) z.0 j (chain_length w j a))
