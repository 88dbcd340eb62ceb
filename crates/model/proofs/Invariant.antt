-- What holds of every state of a hall: of its blocks, its pools, what was posted, and of each honest seat.
use Rattle.std.proofs.Common.{◌≡◌, ℕ, ◌+◌, ◌-◌, ◌%◌, ◌<◌, ◌≤◌, Bool, true, ◌⊎◌, List}
use Rattle.model.specs.Setup.{Plan, quorum, number, round_of, maker_of, rank_of, numbers}
use Rattle.model.specs.World.{World, Seat, Phase, Message, notarization, notarization_share, beacon_share, shares, exists, chain, valid_at}
use Rattle.model.specs.World.Phase.{waiting, in_round, done}
use Rattle.model.proofs.Accepted.{Acts}
use Rattle.model.proofs.Growth.{BlocksOk, Backed}
use Rattle.model.proofs.Ranges.{Fits}

-- the first round that a seat is not past
abbrev pub frontier : Phase → ℕ → ℕ
frontier waiting k = k
frontier in_round k = k
frontier done k = k + 1

-- a block of a round that the seat is past, or of the round that it is in, with a mark of it
abbrev pub PastOrMarked : Plan → Phase → ℕ → ℕ → Bool → Type 0
PastOrMarked p phase k b mark = (round_of p b < frontier phase k) ⊎ ((phase ≡ in_round) × (round_of p b ≡ k) × (mark ≡ true))

-- a posted notarization of a block of round k
abbrev pub Settled : Plan → World → ℕ → Type 0
Settled p w k = (b : ℕ) × (round_of p b ≡ k) × (w.posted (notarization b) ≡ true)

-- where a seat stands
pub record Stage (p : Plan) (w : World) (s : ℕ) (phase : Phase) (k : ℕ) : Type 0 where
  pub from_one : 1 ≤ k
  pub to_last : k ≤ p.rounds
  pub done_last : phase ≡ done → k ≡ p.rounds
  pub beacons : (j : ℕ) → 1 ≤ j → j ≤ k → w.posted (beacon_share s j) ≡ true
  pub past : (j : ℕ) → 1 ≤ j → j < k → Settled p w j
  pub past_done : phase ≡ done → Settled p w k

-- two blocks of rank r in round k
pub record Twins (p : Plan) (w : World) (k r : ℕ) : Type 0 where
  pub one : ℕ
  pub two : ℕ
  pub differ : one ≡ two → ⊥
  pub rank_one : rank_of p one ≡ r
  pub rank_two : rank_of p two ≡ r
  pub round_one : round_of p one ≡ k
  pub round_two : round_of p two ≡ k
  pub backed_one : Backed p w one
  pub backed_two : Backed p w two

pub record NotedOk (p : Plan) (w : World) (s k b : ℕ) : Type 0 where
  pub seal_made : w.sealed 2 s b ≡ true
  pub share_posted : w.posted (notarization_share s b) ≡ true
  pub of_round : round_of p b ≡ k
  pub in_range : b < numbers p

-- of a seat inside round k
pub record Inside (p : Plan) (w : World) (s k : ℕ) (proposed : Bool) (noted disqualified : ℕ → Bool) : Type 0 where
  pub next_share : k + 1 ≤ p.rounds → w.posted (beacon_share s (k + 1)) ≡ true
  pub noted_ok : (b : ℕ) → noted b ≡ true → NotedOk p w s k b
  pub noted_once : (b c : ℕ) → noted b ≡ true → noted c ≡ true → rank_of p b ≡ rank_of p c → b ≡ c
  pub disqualified_ok : (r : ℕ) → disqualified r ≡ true → Twins p w k r
  pub proposed_ok : proposed ≡ true → w.made (number p k s 0) ≡ true

-- s, past all rounds below f, has sealed for notarization in that of b for b alone
pub record SealedLast (p : Plan) (w : World) (s f b : ℕ) : Type 0 where
  pub past : round_of p b < f
  pub only : (c : ℕ) → round_of p c ≡ round_of p b → w.sealed 2 s c ≡ true → c ≡ b
  pub supported : quorum p ≤ shares w p.n 2 b

-- a block of a seat's own making
pub record Own (p : Plan) (w : World) (phase : Phase) (k : ℕ) (proposed : Bool) (b : ℕ) : Type 0 where
  pub backed : Backed p w b
  pub first_variant : (b - 1) % 3 ≡ 0
  pub used : PastOrMarked p phase k b proposed

-- the seals and the blocks that a seat has made
pub record Marks (p : Plan) (w : World) (s : ℕ) (phase : Phase) (k : ℕ) (proposed : Bool) (noted : ℕ → Bool) : Type 0 where
  pub backed_2 : (b : ℕ) → w.sealed 2 s b ≡ true → Backed p w b
  pub noted_2 : (b : ℕ) → w.sealed 2 s b ≡ true → PastOrMarked p phase k b (noted b)
  pub last_4 : (b : ℕ) → w.sealed 4 s b ≡ true → SealedLast p w s (frontier phase k) b
  pub own : (b : ℕ) → w.made b ≡ true → maker_of p b ≡ s → Own p w phase k proposed b

-- b, of round k, is valid in the pool of s, and final unless it is the root
pub record Anchored (p : Plan) (w : World) (s k b : ℕ) : Type 0 where
  pub sits : valid_at p w s k b ≡ true
  pub level : round_of p b ≡ k
  pub final : 1 ≤ k → quorum p ≤ shares w p.n 4 b

-- the catalogue is the chain of a final block of round k
abbrev pub Anchor : Plan → World → ℕ → ℕ → List ℕ → Type 0
Anchor p w s k catalogue = (b : ℕ) × Anchored p w s k b × (catalogue ≡ chain w k b)

-- the honest seat s, in the condition st
pub record SeatOk (p : Plan) (w : World) (s : ℕ) (st : Seat) : Type 0 where
  pub stage : Stage p w s st.phase st.round
  pub inside : st.phase ≡ in_round → Inside p w s st.round st.proposed st.noted st.disqualified
  pub marks : Marks p w s st.phase st.round st.proposed st.noted
  pub anchor : Anchor p w s st.k_max st.catalogue

abbrev pub PoolsOk : Plan → World → Type 0
PoolsOk p w = (s : ℕ) (m : Message) → w.pool s m ≡ true → exists p w m ≡ true

-- a message that a delivery finds in range, and that exists
pub record Deliverable (p : Plan) (w : World) (m : Message) : Type 0 where
  pub fits : Fits p w m
  pub is_there : exists p w m ≡ true

pub record Inv (p : Plan) (w : World) : Type 0 where
  pub blocks : BlocksOk p w
  pub pools : PoolsOk p w
  pub posts : (m : Message) → w.posted m ≡ true → Deliverable p w m
  pub seats : (s : ℕ) → Acts p s → SeatOk p w s (w.seat s)
