-- What a pool says of a block that is valid or notarized in it.
use Rattle.std.proofs.Common.{◌≡◌, ℕ, zero, suc, true, ◌⊎◌, subst, inl, inr, arith}
use Rattle.std.proofs.lemmas.Bool.{and_parts, eqb-true}
use Rattle.model.specs.Setup.{Plan, round_of}
use Rattle.model.specs.World.{World, block, notarization, exists, valid, valid_at, notarized, notarized_at}
use Rattle.model.proofs.Accepted.{Known}
use Rattle.model.proofs.Growth.{BlockOk, payload_sound}
use Rattle.model.proofs.Invariant.{Inv}

module _ (p : Plan) (w : World) where
  pub notarized_says : (s k b : ℕ) → notarized_at p w s k b ≡ true → (b ≡ 0) ⊎ (w.pool s (notarization b) ≡ true)
  notarized_says s zero b h = inl (eqb-true b 0 h)
  notarized_says s (suc k) b h = inr (and_parts (valid_at p w s (suc k) b) _ h).1

  pub valid_says : (s b : ℕ) → BlockOk p w b → valid p w s b ≡ true →
      (w.pool s (block b) ≡ true) × (notarized p w s (w.parent b) ≡ true) × (payload_sound p w b ≡ true)
  valid_says s b ok h =
      let e : round_of p b ≡ suc (round_of p (w.parent b)) = omega (arith, ok.parent_round) in
      let x : valid_at p w s (suc (round_of p (w.parent b))) b ≡ true = subst (λ (k : ℕ). valid_at p w s k b ≡ true) e h in
      let (here, rest) = and_parts (w.pool s (block b)) _ x in
      let (nt, so) = and_parts (notarized p w s (w.parent b)) _ rest in
      (here, nt, so)

  module _ (i : Inv p w) where
    pub in_pool_made : (s b : ℕ) → w.pool s (block b) ≡ true → w.made b ≡ true
    in_pool_made s b h = i.pools s (block b) h

    pub valid_known : (s k b : ℕ) → valid_at p w s k b ≡ true → Known w b
    valid_known s zero b h = inl (eqb-true b 0 h)
    valid_known s (suc k) b h = inr (in_pool_made s b (and_parts (w.pool s (block b)) _ h).0)

    -- a notarized block that is not the root has its notarization
    pub notarized_exists : (s k b : ℕ) → notarized_at p w s k b ≡ true → (b ≡ 0 → ⊥) → exists p w (notarization b) ≡ true
    notarized_exists s k b h above =
        elim (notarized_says s k b h) [ inl e ↦ absurd (above e) | inr y ↦ i.pools s (notarization b) y ]
