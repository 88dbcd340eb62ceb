-- What an accepted call does: a table for the seals, the broadcasts, the new block and the caller's seat; and the opening state.
use Rattle.std.specs.Prelude.{ℕ, ◌+◌, Bool, true, false, cond, ◌&&◌, ◌||◌, List, [], ◌∷◌, ◌++◌, ◌==◌, nat_le, nat_lt}
use Rattle.model.specs.Setup.{Plan, honest, number, maker_of, rank_of}
use Rattle.model.specs.World.{World, Seat, Message, message, block, notarization_share, notarization, finalization_share, finalization, beacon_share, same, has}
use Rattle.basics.specs.Put.{put}
use Rattle.model.specs.Seats.{fresh, at_clock, entered, having_proposed, noting, disqualifying, finished, committed}
use Rattle.model.specs.Checks.{Call, Verdict, caller, noted_rank, noted_other, made_in, verdict}
use Rattle.model.specs.Checks.Call.{tick, enter, propose, echo, finish, commit, deliver, forge, seal}
use Rattle.model.specs.Checks.Verdict.{accepted, refused}

-- the state with block b, its parent and its places
abbrev pub with_block : ℕ → ℕ → List ℕ → World → World
with_block b par xs w = record {
  made = put b true w.made;
  parent = put b par w.parent;
  places = put b xs w.places;
  sealed = w.sealed;
  pool = w.pool;
  posted = w.posted;
  seat = w.seat;
}

-- the notarization of a parent; the root has none
abbrev pub parent_notarization : ℕ → List Message
parent_notarization par = cond (par == 0) [] (notarization par ∷ [])

module _ (p : Plan) (w : World) where
  -- the block that a proposal of a seat makes
  abbrev pub proposal : ℕ → ℕ
  proposal s = number p (w.seat s).round s 0

  -- the block that a forgery makes
  abbrev pub forgery : ℕ → ℕ → ℕ
  forgery s k = number p k s (made_in p w s k)

  -- the shares that a call seals: an echo seals unless it disqualifies, a finish unless another block was noted
  abbrev pub seals : Call → List Message
  seals (tick _ _) = []
  seals (enter s) = cond (nat_le ((w.seat s).round + 1) p.rounds) (beacon_share s ((w.seat s).round + 1) ∷ []) []
  seals (propose _ _ _) = []
  seals (echo s b) = cond (noted_rank p (w.seat s) (rank_of p b)) [] (notarization_share s b ∷ [])
  seals (finish s b) = cond (noted_other p (w.seat s) b) [] (finalization_share s b ∷ [])
  seals (commit _ _) = []
  seals (deliver _ _ _ _) = []
  seals (forge _ _ _ _) = []
  seals (seal s kind x) = message kind s x ∷ []

  -- the block of another seat, with its parent's notarization, as an echo passes it on
  abbrev pub passed_on : ℕ → ℕ → List Message
  passed_on s b = cond (maker_of p b == s) [] (block b ∷ parent_notarization (w.parent b))

  -- the messages that a call broadcasts
  abbrev pub broadcast : Call → List Message
  broadcast (tick _ _) = []
  broadcast (enter s) = seals (enter s)
  broadcast (propose s par _) = block (proposal s) ∷ parent_notarization par
  broadcast (echo s b) = passed_on s b ++ seals (echo s b)
  broadcast (finish s b) = notarization b ∷ seals (finish s b)
  broadcast (commit _ b) = finalization b ∷ []
  broadcast (deliver _ _ _ _) = []
  broadcast (forge _ _ _ _) = []
  broadcast (seal _ _ _) = []

  -- what comes into the caller's own pool
  abbrev pub arrivals : Call → List Message
  arrivals (tick s time) = broadcast (tick s time)
  arrivals (enter s) = broadcast (enter s)
  arrivals (propose s par xs) = broadcast (propose s par xs)
  arrivals (echo s b) = broadcast (echo s b)
  arrivals (finish s b) = broadcast (finish s b)
  arrivals (commit s b) = broadcast (commit s b)
  arrivals (deliver _ kind signer x) = message kind signer x ∷ []
  arrivals (forge s k par xs) = broadcast (forge s k par xs)
  arrivals (seal s kind x) = broadcast (seal s kind x)

  -- the state with the block that a call makes, if it makes one
  abbrev pub with_new_block : Call → World
  with_new_block (tick _ _) = w
  with_new_block (enter _) = w
  with_new_block (propose s par xs) = with_block (proposal s) par xs w
  with_new_block (echo _ _) = w
  with_new_block (finish _ _) = w
  with_new_block (commit _ _) = w
  with_new_block (deliver _ _ _ _) = w
  with_new_block (forge s k par xs) = with_block (forgery s k) par xs w
  with_new_block (seal _ _ _) = w

  -- the caller's seat after a call
  abbrev pub seat_after : Call → Seat
  seat_after (tick s time) = at_clock time (w.seat s)
  seat_after (enter s) = entered (w.seat s)
  seat_after (propose s _ _) = having_proposed (w.seat s)
  seat_after (echo s b) = cond (noted_rank p (w.seat s) (rank_of p b)) (disqualifying (rank_of p b) (w.seat s)) (noting b (w.seat s))
  seat_after (finish s _) = finished p (w.seat s)
  seat_after (commit s b) = committed p w b (w.seat s)
  seat_after (deliver s _ _ _) = w.seat s
  seat_after (forge s _ _ _) = w.seat s
  seat_after (seal s _ _) = w.seat s

  -- the state after an accepted call
  abbrev pub effect : Call → World
  effect c = record {
    made = (with_new_block c).made;
    parent = (with_new_block c).parent;
    places = (with_new_block c).places;
    sealed = λ kind s x. has (seals c) (message kind s x) || w.sealed kind s x;
    pool = λ s m. (caller c == s && has (arrivals c) m) || w.pool s m;
    posted = λ m. has (broadcast c) m || w.posted m;
    seat = put (caller c) (seat_after c) w.seat;
  }

-- whether an answer accepts
abbrev pub is_accepted : Verdict → Bool
is_accepted accepted = true
is_accepted (refused _ _ _ _) = false

-- the state after a call: a refused one changes nothing
abbrev pub after : Plan → World → Call → World
after p w c = cond (is_accepted (verdict p w c)) (effect p w c) w

-- The state at opening: each honest seat waits for round 1, its beacon share of that round sealed and posted; there is nothing else.
abbrev pub opening : Plan → World
opening p = record {
  made = λ _. false;
  parent = λ _. 0;
  places = λ _. [];
  sealed = λ kind s x. (kind == 6) && (x == 1 && (nat_lt s p.n && honest p s));
  pool = λ s m. (nat_lt s p.n && honest p s) && same (beacon_share s 1) m;
  posted = λ m. (m.kind == 6) && (m.subject == 1 && (nat_lt m.signer p.n && honest p m.signer));
  seat = λ _. fresh;
}
