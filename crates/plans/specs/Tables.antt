-- The tables of a plan: ranks by round and seat, and which entries are alike.
use Rattle.std.specs.Prelude.{◌≡◌, ℕ, ◌+◌, ◌-◌, ◌*◌, ◌<◌, Bool, true, cond, ◌&&◌, List, nat_lt, slice_index}
use Rattle.basics.specs.Bit.{bit}
use Rattle.draws.specs.Ranks.{drawn}

-- the rank of seat s in round k: 13 to a round; where there is no such seat or round, the seat's own number
abbrev pub rank_in : ℕ → ℕ → List ℕ → ℕ → ℕ → ℕ
rank_in n R ranks k s = cond (drawn n R k s) (slice_index ranks ((k - 1) * 13 + s)) s

-- whether the places x and y hold like entries: a row of bits to a place
abbrev pub like_in : ℕ → List ℕ → ℕ → ℕ → Bool
like_in entries rows x y = (nat_lt x entries && nat_lt y entries) && bit (slice_index rows x) y

-- a round and two of n seats
pub record TwoSeats (n : ℕ) : Type 0 where
  pub round : ℕ
  pub one : ℕ
  pub other : ℕ
  pub one_low : one < n
  pub other_low : other < n

-- in each round, a seat's rank is below n
abbrev pub RanksBelow : ℕ → ℕ → List ℕ → Type 0
RanksBelow n R ranks = (q : TwoSeats n) → rank_in n R ranks q.round q.one < n

-- in each round, no two seats have one rank
abbrev pub RanksApart : ℕ → ℕ → List ℕ → Type 0
RanksApart n R ranks = (q : TwoSeats n) → rank_in n R ranks q.round q.one ≡ rank_in n R ranks q.round q.other → q.one ≡ q.other

-- two of the places
pub record TwoPlaces (m : ℕ) : Type 0 where
  pub one : ℕ
  pub other : ℕ
  pub one_low : one < m
  pub other_low : other < m

-- each place is like itself
abbrev pub LikeSelf : ℕ → List ℕ → Type 0
LikeSelf m rows = (q : TwoPlaces m) → like_in m rows q.one q.one ≡ true

-- likeness goes both ways
abbrev pub LikeBack : ℕ → List ℕ → Type 0
LikeBack m rows = (q : TwoPlaces m) → like_in m rows q.one q.other ≡ true → like_in m rows q.other q.one ≡ true
