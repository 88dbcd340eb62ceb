-- The nine calls, and the checks of each in order: the first that fails is the call's refusal.
use Rattle.std.specs.Prelude.{ℕ, ◌+◌, ◌*◌, Bool, true, false, cond, not, ◌&&◌, ◌||◌, List, [], ◌∷◌, length, ◌==◌, nat_le, nat_lt}
use Rattle.basics.specs.Count.{tally, some_below, first_below}
use Rattle.model.specs.Setup.{Plan, quorum, honest, number, round_of, rank_of, numbers, prop_delay, ntry_delay, elapsed, in_order}
use Rattle.model.specs.World.{World, Seat, Phase, message, exists, chain, places_of, sound, valid, notarized, held}
use Rattle.model.specs.World.Phase.{waiting, in_round, done}

-- A call names its seat first. The rules of an honest seat: its clock is set; it enters a round, proposes a block, echoes one, finishes its round
-- with one, commits one. A message is delivered to it. A corrupt seat makes a block, or seals a share.
pub data Call : Type 0 where
  tick : (s time : ℕ) → Call
  enter : (s : ℕ) → Call
  propose : (s parent : ℕ) (places : List ℕ) → Call
  echo finish commit : (s b : ℕ) → Call
  deliver : (s kind signer subject : ℕ) → Call
  forge : (s round parent : ℕ) (places : List ℕ) → Call
  seal : (s kind subject : ℕ) → Call

-- the seat that a call is made for
abbrev pub caller : Call → ℕ
caller (tick s _) = s
caller (enter s) = s
caller (propose s _ _) = s
caller (echo s _) = s
caller (finish s _) = s
caller (commit s _) = s
caller (deliver s _ _ _) = s
caller (forge s _ _ _) = s
caller (seal s _ _) = s

-- the answer to a call: accepted, or refused with a number, the layer that refused, the seat and the subject
pub data Verdict : Type 0 where
  accepted : Verdict
  refused : (number layer seat subject : ℕ) → Verdict

-- what must hold, and the refusal where it does not
pub data Check : Type 0 where
  must : (holds : Bool) (number layer seat subject : ℕ) → Check

-- accepted if all checks hold, else refused by the first that does not
abbrev pub first_failed : List Check → Verdict
first_failed [] = accepted
first_failed (must holds number layer seat subject ∷ cs) = cond holds (first_failed cs) (refused number layer seat subject)

-- whether a seat is in a round
abbrev pub is_in_round : Phase → Bool
is_in_round waiting = false
is_in_round in_round = true
is_in_round done = false

-- whether it waits for one
abbrev pub is_waiting : Phase → Bool
is_waiting waiting = true
is_waiting in_round = false
is_waiting done = false

-- the root, or a block that was made
abbrev pub known : Plan → World → ℕ → Bool
known p w b = b == 0 || (nat_lt b (numbers p) && w.made b)

-- whether all places could be in an entry table
abbrev pub all_below_128 : List ℕ → Bool
all_below_128 [] = true
all_below_128 (x ∷ xs) = nat_lt x 128 && all_below_128 xs

-- whether a payload has at most four places, each of which could be in an entry table
abbrev pub payload_ok : List ℕ → Bool
payload_ok xs = nat_le (length xs) 4 && all_below_128 xs

-- N has a block of rank r
abbrev pub noted_rank : Plan → Seat → ℕ → Bool
noted_rank p st r = some_below (λ b. st.noted b && rank_of p b == r) (numbers p)

-- N has another block than b
abbrev pub noted_other : Plan → Seat → ℕ → Bool
noted_other p st b = some_below (λ c. st.noted c && not (c == b)) (numbers p)

-- c is a valid block of the seat's round whose rank is below r and not disqualified
abbrev pub better : Plan → World → ℕ → ℕ → ℕ → Bool
better p w s r c =
    (round_of p c == (w.seat s).round)
    && (nat_lt (rank_of p c) r && (not ((w.seat s).disqualified (rank_of p c)) && valid p w s c))

-- whether there is one
abbrev pub some_better : Plan → World → ℕ → ℕ → Bool
some_better p w s r = some_below (λ j. better p w s r (in_order p (w.seat s).round j)) (3 * r)

-- the first of them in the order by rank, then by number
abbrev pub first_better : Plan → World → ℕ → ℕ → ℕ
first_better p w s r =
    in_order p (w.seat s).round (first_below (λ j. better p w s r (in_order p (w.seat s).round j)) (3 * r))

-- how many blocks a seat has made in a round
abbrev pub made_in : Plan → World → ℕ → ℕ → ℕ
made_in p w s k = tally (λ v. w.made (number p k s v)) 3

-- whether two lists are the same
abbrev pub same_list : List ℕ → List ℕ → Bool
same_list [] [] = true
same_list [] (y ∷ ys) = false
same_list (x ∷ xs) [] = false
same_list (x ∷ xs) (y ∷ ys) = x == y && same_list xs ys

-- whether a seat has made a block of this round with this parent and these places
abbrev pub forged_before : Plan → World → ℕ → ℕ → ℕ → List ℕ → Bool
forged_before p w s k par xs = some_below
    (λ v. w.made (number p k s v) && (w.parent (number p k s v) == par && same_list (w.places (number p k s v)) xs)) 3

-- a message of this kind, signer and subject could exist
abbrev pub in_range : Plan → World → ℕ → ℕ → ℕ → Bool
in_range p w kind signer x =
    cond (kind == 6) (nat_lt signer p.n && (nat_le 1 x && nat_le x p.rounds))
    (nat_le 1 kind && (nat_lt kind 6 && ((not (x == 0) && known p w x)
    && cond (kind == 2 || kind == 4) (nat_lt signer p.n) (signer == 0))))

-- the whole, or a quorum of its shares, is in the pool
abbrev pub combined : Plan → World → ℕ → ℕ → ℕ → ℕ → Bool
combined p w s kind b whole = w.pool s (message whole 0 b) || nat_le (quorum p) (held p w s kind b)

module _ (p : Plan) (w : World) where
  -- whether the seat has been in its round for this long
  abbrev pub waited : ℕ → ℕ → Bool
  waited s delay = nat_le delay (elapsed p s (w.seat s).start (w.seat s).clock)

  -- the checks of each call, in order
  abbrev pub checks : Call → List Check
  checks (tick s time) =
      must (nat_lt s p.n) 8 3 s 0
      ∷ must (honest p s) 9 3 s 0
      ∷ must (nat_le (w.seat s).clock time && nat_le time 1000000000) 11 4 s 0
      ∷ []
  checks (enter s) =
      must (nat_lt s p.n) 8 3 s 0
      ∷ must (honest p s) 9 3 s 0
      ∷ must (is_waiting (w.seat s).phase) 12 4 s 0
      ∷ must (nat_le (p.t + 1) (held p w s 6 (w.seat s).round)) 13 4 s 0
      ∷ []
  checks (propose s par xs) =
      must (nat_lt s p.n) 8 3 s par
      ∷ must (honest p s) 9 3 s par
      ∷ must (known p w par && payload_ok xs) 10 3 s par
      ∷ must (is_in_round (w.seat s).phase) 12 4 s par
      ∷ must (not (w.seat s).proposed) 15 4 s par
      ∷ must (waited s (prop_delay p (p.rank (w.seat s).round s))) 14 4 s par
      ∷ must (round_of p par + 1 == (w.seat s).round) 17 4 s par
      ∷ must (notarized p w s par) 18 4 s par
      ∷ must (sound p (places_of w (chain w (round_of p par) par)) xs) 19 4 s par
      ∷ []
  checks (echo s b) =
      must (nat_lt s p.n) 8 3 s b
      ∷ must (honest p s) 9 3 s b
      ∷ must (known p w b) 10 3 s b
      ∷ must (is_in_round (w.seat s).phase) 12 4 s b
      ∷ must (round_of p b == (w.seat s).round) 17 4 s b
      ∷ must (not ((w.seat s).noted b) && not ((w.seat s).disqualified (rank_of p b))) 16 4 s b
      ∷ must (valid p w s b) 18 4 s b
      ∷ must (waited s (ntry_delay p (rank_of p b))) 14 4 s b
      ∷ must (not (some_better p w s (rank_of p b))) 20 4 s (first_better p w s (rank_of p b))
      ∷ []
  checks (finish s b) =
      must (nat_lt s p.n) 8 3 s b
      ∷ must (honest p s) 9 3 s b
      ∷ must (known p w b) 10 3 s b
      ∷ must (is_in_round (w.seat s).phase) 12 4 s b
      ∷ must (round_of p b == (w.seat s).round) 17 4 s b
      ∷ must (valid p w s b) 18 4 s b
      ∷ must (combined p w s 2 b 3) 21 4 s b
      ∷ []
  checks (commit s b) =
      must (nat_lt s p.n) 8 3 s b
      ∷ must (honest p s) 9 3 s b
      ∷ must (known p w b) 10 3 s b
      ∷ must (nat_lt (w.seat s).k_max (round_of p b)) 17 4 s b
      ∷ must (valid p w s b) 18 4 s b
      ∷ must (combined p w s 4 b 5) 21 4 s b
      ∷ []
  checks (deliver s kind signer x) =
      must (nat_lt s p.n) 8 3 s x
      ∷ must (honest p s) 9 3 s x
      ∷ must (in_range p w kind signer x) 10 3 s x
      ∷ must (exists p w (message kind signer x)) 22 3 s x
      ∷ []
  checks (forge s k par xs) =
      must (nat_lt s p.n) 8 3 s par
      ∷ must (not (honest p s)) 9 3 s par
      ∷ must (nat_le 1 k && (nat_le k p.rounds && (known p w par && payload_ok xs))) 10 3 s par
      ∷ must (round_of p par + 1 == k) 17 3 s par
      ∷ must (not (forged_before p w s k par xs)) 16 3 s par
      ∷ must (nat_lt (made_in p w s k) 3) 15 3 s par
      ∷ []
  checks (seal s kind x) =
      must (nat_lt s p.n) 8 3 s x
      ∷ must (not (honest p s)) 9 3 s x
      ∷ must ((kind == 2 || (kind == 4 || kind == 6)) && in_range p w kind s x) 10 3 s x
      ∷ must (not (w.sealed kind s x)) 16 3 s x
      ∷ []

  -- the answer to a call in this state
  abbrev pub verdict : Call → Verdict
  verdict c = first_failed (checks c)
