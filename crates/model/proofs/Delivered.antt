-- Where every honest pool holds what was posted: what is notarized and valid there, and which seat can finish its round.
use Rattle.std.proofs.Common.{◌≡◌, ℕ, zero, suc, ◌-◌, ◌*◌, ◌<◌, ◌≤◌, true, ◌⊎◌, refl, ap, subst, inl, inr, mul-le-mul_left, arith}
use Rattle.std.proofs.lemmas.Bool.{and_from, or_left, eq-eqb}
use Rattle.model.specs.Setup.{Plan, Lawful, round_of, prop_delay, ntry_delay, elapsed}
use Rattle.model.specs.World.{World, Message, block, notarization, chain, places_of, sound, notarized_at, valid, valid_at}
use Rattle.model.specs.World.Phase.{in_round}
use Rattle.model.specs.Checks.{known, combined}
use Rattle.model.specs.Promises.{AllDelivered, AllPatient, Ready}
use Rattle.model.proofs.Counting.{quorum_honest}
use Rattle.model.proofs.Numbering.{earlier_is_root}
use Rattle.model.proofs.Accepted.{Acts, is_known, acting}
use Rattle.model.proofs.Ready.{finish_ready}
use Rattle.model.proofs.Growth.{Backed}
use Rattle.model.proofs.Existence.{notarization_quorum}
use Rattle.model.proofs.Invariant.{Settled, Inv}

pub received : (p : Plan) (w : World) → AllDelivered p w → (s : ℕ) (m : Message) → Acts p s → w.posted m ≡ true → w.pool s m ≡ true
received p w delivered s m a = delivered s m a.below a.honest_seat

module _ (p : Plan) (law : Lawful p) where
  module _ (w : World) (i : Inv p w) (delivered : AllDelivered p w) where
    pub notarized_backed : (s b : ℕ) → Acts p s → w.posted (notarization b) ≡ true → Backed p w b
    notarized_backed s b a h =
        let e = i.pools s (notarization b) (received p w delivered s (notarization b) a h) in
        let x = quorum_honest p law (λ r. w.sealed 2 r b) (notarization_quorum p w b e) in
        (i.seats x.0 (acting x.1 x.2)).marks.backed_2 b x.3

    pub notarized_everywhere : (k b s : ℕ) → Acts p s → round_of p b ≡ k → (b ≡ 0) ⊎ (w.posted (notarization b) ≡ true) →
        notarized_at p w s k b ≡ true
    notarized_everywhere zero b s a r x = eq-eqb b 0 (earlier_is_root p b r)
    notarized_everywhere (suc k) b s a r (inl e) = absurd (let q = ap (round_of p) e in omega arith)
    notarized_everywhere (suc k) b s a r (inr h) =
        let x = notarized_backed s b a h in
        let q : round_of p (w.parent b) ≡ k = (let z = (i.blocks b x.is_made).parent_round in omega arith) in
        and_from _ _ (and_from _ _ (received p w delivered s (block b) a x.block_posted)
        (and_from _ _ (notarized_everywhere k (w.parent b) s a q x.parent_posted)
        (subst (λ (j : ℕ). sound p (places_of w (chain w j (w.parent b))) (w.places b) ≡ true) q x.payload)))
        (received p w delivered s (notarization b) a h)

    pub valid_everywhere : (b s : ℕ) → Acts p s → Backed p w b → valid p w s b ≡ true
    valid_everywhere b s a x =
        let k : ℕ = round_of p (w.parent b) in
        let q : suc k ≡ round_of p b = (let z = (i.blocks b x.is_made).parent_round in omega arith) in
        let y : valid_at p w s (suc k) b ≡ true =
        and_from _ _ (received p w delivered s (block b) a x.block_posted)
        (and_from _ _ (notarized_everywhere k (w.parent b) s a refl x.parent_posted) x.payload) in
        subst (λ (j : ℕ). valid_at p w s j b ≡ true) q y

    pub made_known : (b : ℕ) → w.made b ≡ true → known p w b ≡ true
    made_known b m = is_known p w b (i.blocks b m).last m

    -- a seat in a round of which a backed block is complete in its pool
    pub finishes : (s b : ℕ) → Acts p s → (w.seat s).phase ≡ in_round → round_of p b ≡ (w.seat s).round → Backed p w b →
        combined p w s 2 b 3 ≡ true → Ready p w
    finishes s b a ph r x full =
        (s, a.below, a.honest_seat, inr (inr (inr (b, finish_ready p w s a b (made_known b x.is_made) ph r (valid_everywhere b s a x) full))))

    pub finishes_settled : (s : ℕ) → Acts p s → (w.seat s).phase ≡ in_round → Settled p w (w.seat s).round → Ready p w
    finishes_settled s a ph x =
        finishes s x.0 a ph x.1 (notarized_backed s x.0 a x.2)
        (or_left (w.pool s (notarization x.0)) _ (received p w delivered s (notarization x.0) a x.2))

  module _ (w : World) (patient : AllPatient p w) where
    pub waited : (s r : ℕ) → Acts p s → (w.seat s).phase ≡ in_round → r < p.n → ntry_delay p r ≤ elapsed p s (w.seat s).start (w.seat s).clock
    waited s r a ph l =
        let q = patient s a.below a.honest_seat ph in
        let m : 2 * p.d * r ≤ 2 * p.d * (p.n - 1) = mul-le-mul_left (2 * p.d) (omega arith) in
        omega arith

    pub waited_to_propose : (s r : ℕ) → Acts p s → (w.seat s).phase ≡ in_round → r < p.n →
        prop_delay p r ≤ elapsed p s (w.seat s).start (w.seat s).clock
    waited_to_propose s r a ph l = let q = waited s r a ph l in omega arith
