-- The state of a hall: blocks, seals, pools, what was broadcast, and the seats.
use Rattle.std.specs.Prelude.{ℕ, zero, suc, Bool, true, false, cond, not, ◌&&◌, ◌||◌, List, [], ◌∷◌, ◌++◌, ◌==◌, nat_le, nat_lt}
use Rattle.basics.specs.Count.{tally}
use Rattle.model.specs.Setup.{Plan, quorum, round_of}

-- A message: its kind, who signed it, and what it is about.
-- Kinds: 1 block, 2 notarization share, 3 notarization, 4 finalization share, 5 finalization, 6 beacon share.
-- The subject of kind 6 is a round, of the others a block. Kinds 1, 3 and 5 have signer 0.
pub record Message : Type 0 where
  pub kind : ℕ
  pub signer : ℕ
  pub subject : ℕ

-- the message of a kind, signer and subject
abbrev pub message : ℕ → ℕ → ℕ → Message
message k s x = record { kind = k; signer = s; subject = x }

-- block b itself
abbrev pub block : ℕ → Message
block b = message 1 0 b

-- the share by which s seals block b for notarization
abbrev pub notarization_share : ℕ → ℕ → Message
notarization_share s b = message 2 s b

-- a quorum's shares of it, combined
abbrev pub notarization : ℕ → Message
notarization b = message 3 0 b

-- the share by which s seals block b as final
abbrev pub finalization_share : ℕ → ℕ → Message
finalization_share s b = message 4 s b

-- a quorum's shares of it, combined
abbrev pub finalization : ℕ → Message
finalization b = message 5 0 b

-- the share of s for the start of round k
abbrev pub beacon_share : ℕ → ℕ → Message
beacon_share s k = message 6 s k

-- whether two messages are the same
abbrev pub same : Message → Message → Bool
same a b = a.kind == b.kind && (a.signer == b.signer && a.subject == b.subject)

-- whether a message is in a list
abbrev pub has : List Message → Message → Bool
has [] m = false
has (x ∷ xs) m = same x m || has xs m

-- a seat waits for a round, is in one, or is done with the last
pub data Phase : Type 0 where
  waiting in_round done : Phase

-- what a seat keeps for itself
pub record Seat : Type 0 where
  pub phase : Phase
  -- the round awaited, or the one it is in, or the last
  pub round : ℕ
  -- its time now, and when it entered its round
  pub clock : ℕ
  pub start : ℕ
  -- whether it has proposed in its round
  pub proposed : Bool
  -- N: the blocks of this round that it sealed; D: the ranks that it disqualified
  pub noted : ℕ → Bool
  pub disqualified : ℕ → Bool
  -- the round of the last block that it committed, 0 for none, and all committed blocks, lowest round first
  pub k_max : ℕ
  pub catalogue : List ℕ

-- all of a hall at one point of its journal
pub record World : Type 0 where
  -- which blocks are made; the parent of each, and the places of the entry table that it names
  pub made : ℕ → Bool
  pub parent : ℕ → ℕ
  pub places : ℕ → List ℕ
  -- who has sealed what: kind, seat, subject
  pub sealed : ℕ → ℕ → ℕ → Bool
  -- which messages a seat has
  pub pool : ℕ → Message → Bool
  -- which messages honest seats have broadcast
  pub posted : Message → Bool
  pub seat : ℕ → Seat

-- how many of n seats have sealed the share of kind k for b
abbrev pub shares : World → ℕ → ℕ → ℕ → ℕ
shares w n k b = tally (λ s. w.sealed k s b) n

-- Which messages exist: a made block, a sealed share, and a notarization or finalization whose shares a quorum has sealed.
abbrev pub exists : Plan → World → Message → Bool
exists p w m =
    cond (m.kind == 1) (w.made m.subject)
    (cond (m.kind == 3) (nat_le (quorum p) (shares w p.n 2 m.subject))
    (cond (m.kind == 5) (nat_le (quorum p) (shares w p.n 4 m.subject))
    (w.sealed m.kind m.signer m.subject)))

-- What follows says what it depends on: the parents, the payloads and one pool; no other part of the state.
-- The chain of a block of round k, lowest round first; the root is not named.
abbrev pub chain_by : (ℕ → ℕ) → ℕ → ℕ → List ℕ
chain_by parent zero b = []
chain_by parent (suc k) b = chain_by parent k (parent b) ++ (b ∷ [])

-- the same in a state
abbrev pub chain : World → ℕ → ℕ → List ℕ
chain w k b = chain_by w.parent k b

-- the places of a list of blocks, in order
abbrev pub places_by : (ℕ → List ℕ) → List ℕ → List ℕ
places_by places [] = []
places_by places (b ∷ bs) = places b ++ places_by places bs

-- the same in a state
abbrev pub places_of : World → List ℕ → List ℕ
places_of w bs = places_by w.places bs

-- no place of ys is like x
abbrev pub unlike_all : Plan → ℕ → List ℕ → Bool
unlike_all p x [] = true
unlike_all p x (y ∷ ys) = not (p.like x y) && unlike_all p x ys

-- every place of xs is in the entry table, and is like none of ys, nor of those before it
abbrev pub sound : Plan → List ℕ → List ℕ → Bool
sound p ys [] = true
sound p ys (x ∷ xs) = nat_lt x p.entries && (unlike_all p x ys && sound p (ys ++ (x ∷ [])) xs)

-- What a pool says of a block of round k.
module _ (p : Plan) (parent : ℕ → ℕ) (places : ℕ → List ℕ) (pool : Message → Bool) where
  -- the root is notarized; any other block if it is valid and its notarization is in the pool
  abbrev pub notarized_by : ℕ → ℕ → Bool
  notarized_by zero b = b == 0
  notarized_by (suc k) b =
      (pool (block b) && (notarized_by k (parent b)
      && sound p (places_by places (chain_by parent k (parent b))) (places b)))
      && pool (notarization b)

  -- the root is valid; any other block if it is in the pool, its parent is notarized and its payload is sound on the parent's chain
  abbrev pub valid_by : ℕ → ℕ → Bool
  valid_by zero b = b == 0
  valid_by (suc k) b =
      pool (block b) && (notarized_by k (parent b)
      && sound p (places_by places (chain_by parent k (parent b))) (places b))

-- whether b, of round k, is notarized in the pool of s
abbrev pub notarized_at : Plan → World → ℕ → ℕ → ℕ → Bool
notarized_at p w s k b = notarized_by p w.parent w.places (w.pool s) k b

-- whether it is valid there
abbrev pub valid_at : Plan → World → ℕ → ℕ → ℕ → Bool
valid_at p w s k b = valid_by p w.parent w.places (w.pool s) k b

-- whether b is valid in the pool of s
abbrev pub valid : Plan → World → ℕ → ℕ → Bool
valid p w s b = valid_at p w s (round_of p b) b

-- whether it is notarized there
abbrev pub notarized : Plan → World → ℕ → ℕ → Bool
notarized p w s b = notarized_at p w s (round_of p b) b

-- how many shares of a kind for a subject a pool holds
abbrev pub held : Plan → World → ℕ → ℕ → ℕ → ℕ
held p w s k x = tally (λ signer. w.pool s (message k signer x)) p.n
