-- What calls do to a seat: each is the seat as it was but for what its name says.
use Rattle.std.specs.Prelude.{ℕ, ◌+◌, true, false, cond, [], ◌++◌, drop, nat_lt}
use Rattle.model.specs.Setup.{Plan, round_of}
use Rattle.model.specs.World.{World, Seat, chain}
use Rattle.basics.specs.Put.{put}
use Rattle.model.specs.World.Phase.{waiting, in_round, done}

-- at the opening: waiting for round 1
abbrev pub fresh : Seat
fresh = record {
  phase = waiting;
  round = 1;
  clock = 0;
  start = 0;
  proposed = false;
  noted = λ _. false;
  disqualified = λ _. false;
  k_max = 0;
  catalogue = [];
}

-- its clock is set
abbrev pub at_clock : ℕ → Seat → Seat
at_clock time st = record {
  phase = st.phase;
  round = st.round;
  clock = time;
  start = st.start;
  proposed = st.proposed;
  noted = st.noted;
  disqualified = st.disqualified;
  k_max = st.k_max;
  catalogue = st.catalogue;
}

-- it is in its round, from now on, with nothing proposed, noted or disqualified
abbrev pub entered : Seat → Seat
entered st = record {
  phase = in_round;
  round = st.round;
  clock = st.clock;
  start = st.clock;
  proposed = false;
  noted = λ _. false;
  disqualified = λ _. false;
  k_max = st.k_max;
  catalogue = st.catalogue;
}

-- it has proposed
abbrev pub having_proposed : Seat → Seat
having_proposed st = record {
  phase = st.phase;
  round = st.round;
  clock = st.clock;
  start = st.start;
  proposed = true;
  noted = st.noted;
  disqualified = st.disqualified;
  k_max = st.k_max;
  catalogue = st.catalogue;
}

-- N has b
abbrev pub noting : ℕ → Seat → Seat
noting b st = record {
  phase = st.phase;
  round = st.round;
  clock = st.clock;
  start = st.start;
  proposed = st.proposed;
  noted = put b true st.noted;
  disqualified = st.disqualified;
  k_max = st.k_max;
  catalogue = st.catalogue;
}

-- D has the rank r
abbrev pub disqualifying : ℕ → Seat → Seat
disqualifying r st = record {
  phase = st.phase;
  round = st.round;
  clock = st.clock;
  start = st.start;
  proposed = st.proposed;
  noted = st.noted;
  disqualified = put r true st.disqualified;
  k_max = st.k_max;
  catalogue = st.catalogue;
}

-- it waits for the next round, or is done after the last
abbrev pub finished : Plan → Seat → Seat
finished p st = record {
  phase = cond (nat_lt st.round p.rounds) waiting done;
  round = cond (nat_lt st.round p.rounds) (st.round + 1) st.round;
  clock = st.clock;
  start = st.start;
  proposed = st.proposed;
  noted = st.noted;
  disqualified = st.disqualified;
  k_max = st.k_max;
  catalogue = st.catalogue;
}

-- its catalogue goes on to b, with the blocks of the rounds since its last
abbrev pub committed : Plan → World → ℕ → Seat → Seat
committed p w b st = record {
  phase = st.phase;
  round = st.round;
  clock = st.clock;
  start = st.start;
  proposed = st.proposed;
  noted = st.noted;
  disqualified = st.disqualified;
  k_max = round_of p b;
  catalogue = st.catalogue ++ drop st.k_max (chain w (round_of p b) b);
}
