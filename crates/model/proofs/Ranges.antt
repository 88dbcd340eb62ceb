-- Which messages are in range, as a delivery asks, and that they stay so.
use Rattle.std.proofs.Common.{◌≡◌, ℕ, ◌<◌, ◌≤◌, true, not, ◌&&◌, eqb, ltb, leb, refl, inl, inr, arith}
use Rattle.std.proofs.lemmas.Bool.{and_parts, and_from, or_cases, or_left, or_right, not_from_false, ne_eqb, lt-ltb, le-leb}
use Rattle.model.specs.Setup.{Plan, numbers}
use Rattle.model.specs.World.{World, Message, block, notarization, notarization_share, finalization, finalization_share, beacon_share}
use Rattle.model.specs.Checks.{known, in_range}
use Rattle.model.proofs.Accepted.{is_known}
use Rattle.model.proofs.Growth.{Grows, BlockOk}
use Rattle.model.proofs.Existence.{cond_grows}

abbrev pub Fits : Plan → World → Message → Type 0
Fits p w m = in_range p w m.kind m.signer m.subject ≡ true

module _ (p : Plan) (w v : World) (g : Grows w v) where
  known_grows : (b : ℕ) → known p w b ≡ true → known p v b ≡ true
  known_grows b h = elim (or_cases (eqb b 0) _ h) [
    | inl e ↦ or_left _ _ e
    | inr m ↦ (let (below, made) = and_parts (ltb b (numbers p)) (w.made b) m in
        or_right (eqb b 0) _ (and_from _ _ below (g.made_stays b made)))
  ]

  pub fits_grows : (m : Message) → Fits p w m → Fits p v m
  fits_grows m = cond_grows (eqb m.kind 6) _ _ _ _ (λ h. h) (λ h.
      let (low, r) = and_parts (leb 1 m.kind) _ h in
      let (high, q) = and_parts (ltb m.kind 6) _ r in
      let (named, signed) = and_parts (not (eqb m.subject 0) && known p w m.subject) _ q in
      let (above, there) = and_parts (not (eqb m.subject 0)) _ named in
      and_from _ _ low (and_from _ _ high (and_from _ _ (and_from _ _ above (known_grows m.subject there)) signed)))

pub beacon_fits : (p : Plan) (w : World) (s k : ℕ) → s < p.n → 1 ≤ k → k ≤ p.rounds → Fits p w (beacon_share s k)
beacon_fits p w s k below one last = and_from _ _ (lt-ltb s p.n below) (and_from _ _ (le-leb 1 k one) (le-leb k p.rounds last))

-- messages on a made block
module _ (p : Plan) (w : World) (b : ℕ) (ok : BlockOk p w b) (made : w.made b ≡ true) where
  named : (not (eqb b 0) && known p w b) ≡ true
  named = and_from _ _ (not_from_false (eqb b 0) (ne_eqb b 0 (λ e. omega (arith, ok.first)))) (is_known p w b ok.last made)

  pub block_fits : Fits p w (block b)
  block_fits = and_from _ true named refl

  pub notarization_fits : Fits p w (notarization b)
  notarization_fits = and_from _ true named refl

  pub finalization_fits : Fits p w (finalization b)
  finalization_fits = and_from _ true named refl

  pub notarization_share_fits : (s : ℕ) → s < p.n → Fits p w (notarization_share s b)
  notarization_share_fits s below = and_from _ (ltb s p.n) named (lt-ltb s p.n below)

  pub finalization_share_fits : (s : ℕ) → s < p.n → Fits p w (finalization_share s b)
  finalization_share_fits s below = and_from _ (ltb s p.n) named (lt-ltb s p.n below)
