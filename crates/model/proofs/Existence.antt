-- All that proofs know of the messages that exist: they go on existing, a quorum has sealed a whole, and the calls that make a whole.
use Rattle.std.proofs.Common.{◌≡◌, ℕ, ◌≤◌, Bool, true, false, cond, eqb, leb, inl, inr, arith}
use Rattle.std.proofs.lemmas.Bool.{or_cases, leb-true, le-leb}
use Rattle.model.specs.Setup.{Plan, quorum}
use Rattle.model.specs.World.{World, Message, message, notarization, finalization, shares, exists, held}
use Rattle.model.specs.Checks.{combined}
use Rattle.model.specs.Checks.Call.{finish, commit}
use Rattle.model.specs.Effects.{effect}
use Rattle.model.proofs.Counting.{tally_grows}
use Rattle.model.proofs.Growth.{Grows, shares_grow}

pub cond_grows : (c a b a' b' : Bool) → (a ≡ true → a' ≡ true) → (b ≡ true → b' ≡ true) → cond c a b ≡ true → cond c a' b' ≡ true
cond_grows true a b a' b' f g h = f h
cond_grows false a b a' b' f g h = g h

quorum_grows : (p : Plan) (w v : World) → Grows w v → (k x : ℕ) → leb (quorum p) (shares w p.n k x) ≡ true → leb (quorum p) (shares v p.n k x) ≡ true
quorum_grows p w v g k x h = le-leb (quorum p) _ (omega (arith, leb-true (quorum p) _ h, shares_grow w v g p.n k x))

pub exists_grows : (p : Plan) (w v : World) → Grows w v → (m : Message) → exists p w m ≡ true → exists p v m ≡ true
exists_grows p w v g m =
    cond_grows (eqb m.kind 1) _ _ _ _ (g.made_stays m.subject)
    (cond_grows (eqb m.kind 3) _ _ _ _ (quorum_grows p w v g 2 m.subject)
    (cond_grows (eqb m.kind 5) _ _ _ _ (quorum_grows p w v g 4 m.subject) (g.seals_stay m.kind m.signer m.subject)))

module _ (p : Plan) (w : World) where
  pub notarization_quorum : (b : ℕ) → exists p w (notarization b) ≡ true → quorum p ≤ shares w p.n 2 b
  notarization_quorum b h = leb-true (quorum p) _ h

  pub finalization_quorum : (b : ℕ) → exists p w (finalization b) ≡ true → quorum p ≤ shares w p.n 4 b
  finalization_quorum b h = leb-true (quorum p) _ h

  -- The whole, or a quorum of shares, is in a pool: so a quorum has sealed.
  module _ (pooled : (s : ℕ) (m : Message) → w.pool s m ≡ true → exists p w m ≡ true) (s b : ℕ) where
    shares_held : (k : ℕ) → ((r : ℕ) → w.pool s (message k r b) ≡ true → w.sealed k r b ≡ true) →
        leb (quorum p) (held p w s k b) ≡ true → quorum p ≤ shares w p.n k b
    shares_held k real h =
        omega (arith, leb-true (quorum p) _ h, tally_grows (λ r. w.pool s (message k r b)) (λ r. w.sealed k r b) p.n (λ r _ y. real r y))

    pub notarizing_quorum : combined p w s 2 b 3 ≡ true → quorum p ≤ shares w p.n 2 b
    notarizing_quorum h = elim (or_cases _ _ h) [
      | inl y ↦ notarization_quorum b (pooled s (notarization b) y)
      | inr y ↦ shares_held 2 (λ r. pooled s (message 2 r b)) y
    ]

    pub finalizing_quorum : combined p w s 4 b 5 ≡ true → quorum p ≤ shares w p.n 4 b
    finalizing_quorum h = elim (or_cases _ _ h) [
      | inl y ↦ finalization_quorum b (pooled s (finalization b) y)
      | inr y ↦ shares_held 4 (λ r. pooled s (message 4 r b)) y
    ]

    -- a finish leaves the notarization that it needed in being, a commit the finalization
    pub finish_combines : Grows w (effect p w (finish s b)) → combined p w s 2 b 3 ≡ true → exists p (effect p w (finish s b)) (notarization b) ≡ true
    finish_combines g h = quorum_grows p w _ g 2 b (le-leb (quorum p) _ (notarizing_quorum h))

    pub commit_combines : Grows w (effect p w (commit s b)) → combined p w s 4 b 5 ≡ true → exists p (effect p w (commit s b)) (finalization b) ≡ true
    commit_combines g h = quorum_grows p w _ g 4 b (le-leb (quorum p) _ (finalizing_quorum h))
