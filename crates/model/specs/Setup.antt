-- What is fixed when a hall opens, and the numbering of blocks.
use Rattle.std.specs.Prelude.{◌≡◌, ℕ, ◌+◌, ◌-◌, ◌*◌, ◌/◌, ◌%◌, ◌<◌, ◌≤◌, Bool, true, cond, not, ◌==◌, nat_eq}
use Rattle.basics.specs.Count.{tally, first_below}

-- what a hall is opened with
pub record Plan : Type 0 where
  -- how many seats there are, numbered from 0, and how many of them may be corrupt
  pub n : ℕ
  pub t : ℕ
  -- how many rounds there are, numbered from 1
  pub rounds : ℕ
  -- what the delays are reckoned from
  pub d : ℕ
  pub e : ℕ
  -- the rank of a seat in a round: round first
  pub rank : ℕ → ℕ → ℕ
  -- which seats are corrupt
  pub corrupt : ℕ → Bool
  -- how many entries the entry table has, and which of its places are alike
  pub entries : ℕ
  pub like : ℕ → ℕ → Bool

-- the plans that the promises are made for
pub record Lawful (p : Plan) : Type 0 where
  -- less than a third may be corrupt, and no more than may be are
  pub faults : 3 * p.t + 1 ≤ p.n
  pub few : tally p.corrupt p.n ≤ p.t
  pub some_round : 1 ≤ p.rounds
  -- in each round the seats have the ranks 0 to n - 1, each rank once
  pub rank_below : (k s : ℕ) → s < p.n → p.rank k s < p.n
  pub rank_once : (k s s' : ℕ) → s < p.n → s' < p.n → p.rank k s ≡ p.rank k s' → s ≡ s'
  -- likeness is reflexive and symmetric on the table
  pub like_self : (x : ℕ) → x < p.entries → p.like x x ≡ true
  pub like_back : (x y : ℕ) → x < p.entries → y < p.entries → p.like x y ≡ true → p.like y x ≡ true

-- a seat that is not corrupt
abbrev pub honest : Plan → ℕ → Bool
honest p s = not (p.corrupt s)

-- n - t: how many seats make a quorum
abbrev pub quorum : Plan → ℕ
quorum p = p.n - p.t

-- Block 0 is the root, of round 0; any other number says its round, maker and variant.
-- the number of a maker's block of a round: variant 0 of an honest maker, 0 to 2 of a corrupt one
abbrev pub number : Plan → ℕ → ℕ → ℕ → ℕ
number p round maker v = 1 + ((round - 1) * p.n + maker) * 3 + v

-- the round of a block
abbrev pub round_of : Plan → ℕ → ℕ
round_of p b = cond (b == 0) 0 ((b - 1) / 3 / p.n + 1)

-- the seat that makes a block
abbrev pub maker_of : Plan → ℕ → ℕ
maker_of p b = (b - 1) / 3 % p.n

-- the rank of a block: its maker's in its round
abbrev pub rank_of : Plan → ℕ → ℕ
rank_of p b = p.rank (round_of p b) (maker_of p b)

-- how many block numbers there are, the root's among them
abbrev pub numbers : Plan → ℕ
numbers p = 1 + p.rounds * p.n * 3

-- how long a seat of rank r waits in its round before it proposes
abbrev pub prop_delay : Plan → ℕ → ℕ
prop_delay p r = 2 * p.d * r

-- how long a seat waits in its round before it echoes a block of rank r
abbrev pub ntry_delay : Plan → ℕ → ℕ
ntry_delay p r = 2 * p.d * r + p.e

-- how long a seat has been in its round: all rules that wait count time by this alone
abbrev pub elapsed : Plan → ℕ → ℕ → ℕ → ℕ
elapsed p seat start clock = clock - start

-- The order of a round's blocks: by rank, then by number.
-- the seat that has the rank q in round k
abbrev pub holder : Plan → ℕ → ℕ → ℕ
holder p k q = first_below (λ s. nat_eq (p.rank k s) q) p.n

-- the j-th block number of round k in that order, three to a rank
abbrev pub in_order : Plan → ℕ → ℕ → ℕ
in_order p k j = number p k (holder p k (j / 3)) (j % 3)
