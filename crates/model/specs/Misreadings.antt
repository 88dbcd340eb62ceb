-- Three misreadings of the rules. Each is the rules but for the definitions given here, and a closed run tells it apart from them.
use Rattle.std.specs.Prelude.{◌≡◌, ℕ, ◌+◌, ◌-◌, ◌*◌, Bool, true, false, cond, ◌&&◌, ◌||◌, List, [], ◌∷◌, ◌++◌, ◌==◌, nat_le}
use Rattle.basics.specs.Count.{tally}
use Rattle.model.specs.Setup.{Plan, Lawful, honest, quorum, round_of, rank_of}
use Rattle.model.specs.World.{World, Message, message, block, notarization, finalization, finalization_share, same, shares, exists, held}
use Rattle.model.specs.Checks.{Call, Check, Verdict, noted_rank, checks, first_failed, verdict}
use Rattle.model.specs.Checks.Call.{tick, enter, propose, echo, finish, commit, deliver, forge, seal}
use Rattle.model.specs.Checks.Check.{must}
use Rattle.model.specs.Checks.Verdict.{accepted}
use Rattle.model.specs.Effects.{broadcast, effect, opening}
use Rattle.model.specs.Promises.{Agree}
use Rattle.model.specs.Runs.{run_by, accepts_by, run, accepts, four, begun, doubled}

-- First misreading: 2 × t + 1 seats make a quorum, in place of n − t.
abbrev pub small_quorum : Plan → ℕ
small_quorum p = 2 * p.t + 1

-- the checks, of which the one with this refusal number asks for something else
abbrev pub asking : ℕ → Bool → List Check → List Check
asking number test [] = []
asking number test (must holds k layer seat subject ∷ cs) = must (cond (k == number) test holds) k layer seat subject ∷ asking number test cs

module _ (p : Plan) (w : World) where
  -- notarizations and finalizations exist with that many seals
  abbrev pub exists_sooner : Message → Bool
  exists_sooner m =
      cond (m.kind == 3) (nat_le (small_quorum p) (shares w p.n 2 m.subject))
      (cond (m.kind == 5) (nat_le (small_quorum p) (shares w p.n 4 m.subject))
      (exists p w m))

  -- that many shares in a pool are combined
  abbrev pub combined_sooner : ℕ → ℕ → ℕ → ℕ → Bool
  combined_sooner s kind b whole = w.pool s (message whole 0 b) || nat_le (small_quorum p) (held p w s kind b)

  -- all other checks are those of the rules
  abbrev pub checks_sooner : Call → List Check
  checks_sooner (tick s time) = checks p w (tick s time)
  checks_sooner (enter s) = checks p w (enter s)
  checks_sooner (propose s par xs) = checks p w (propose s par xs)
  checks_sooner (echo s b) = checks p w (echo s b)
  checks_sooner (finish s b) = asking 21 (combined_sooner s 2 b 3) (checks p w (finish s b))
  checks_sooner (commit s b) = asking 21 (combined_sooner s 4 b 5) (checks p w (commit s b))
  checks_sooner (deliver s kind signer x) = asking 22 (exists_sooner (message kind signer x)) (checks p w (deliver s kind signer x))
  checks_sooner (forge s k par xs) = checks p w (forge s k par xs)
  checks_sooner (seal s kind x) = checks p w (seal s kind x)

  -- the answer by these checks
  abbrev pub verdict_sooner : Call → Verdict
  verdict_sooner c = first_failed (checks_sooner c)

-- Second misreading: a finish seals its finalization share even where another block is noted.
-- the state in which s has also sealed and broadcast the finalization share of b
abbrev pub also_final : ℕ → ℕ → World → World
also_final s b w = record {
  made = w.made;
  parent = w.parent;
  places = w.places;
  sealed = λ kind r x. same (finalization_share s b) (message kind r x) || w.sealed kind r x;
  pool = λ r m. (s == r && same (finalization_share s b) m) || w.pool r m;
  posted = λ m. same (finalization_share s b) m || w.posted m;
  seat = w.seat;
}

-- all other effects are those of the rules
abbrev pub effect_final_always : Plan → World → Call → World
effect_final_always p w (tick s time) = effect p w (tick s time)
effect_final_always p w (enter s) = effect p w (enter s)
effect_final_always p w (propose s par xs) = effect p w (propose s par xs)
effect_final_always p w (echo s b) = effect p w (echo s b)
effect_final_always p w (finish s b) = also_final s b (effect p w (finish s b))
effect_final_always p w (commit s b) = effect p w (commit s b)
effect_final_always p w (deliver s kind signer x) = effect p w (deliver s kind signer x)
effect_final_always p w (forge s k par xs) = effect p w (forge s k par xs)
effect_final_always p w (seal s kind x) = effect p w (seal s kind x)

-- Third misreading: an echo that disqualifies its block's rank does not pass the block on.
abbrev pub echo_kept_back : Plan → World → ℕ → ℕ → List Message
echo_kept_back p w s b = cond (noted_rank p (w.seat s) (rank_of p b)) [] (broadcast p w (echo s b))

-- Five seats, of which seat 4 is corrupt and has rank 0; one round without delays.
abbrev pub five : Plan
five = record {
  n = 5;
  t = 1;
  rounds = 1;
  d = 0;
  e = 0;
  rank = λ k s. 4 - s;
  corrupt = λ s. (s == 4);
  entries = 1;
  like = λ x y. (x == y);
}

-- the seats 0, 1 and 4
abbrev pub one_three : ℕ → Bool
one_three s = s == 0 || (s == 1 || s == 4)

-- the seats 2, 3 and 4
abbrev pub other_three : ℕ → Bool
other_three s = s == 2 || (s == 3 || s == 4)

-- The corrupt seat makes the blocks 13 and 14, shows one to the seats 0 and 1, the other to 2 and 3, and seals all shares of both.
abbrev pub rival_commits : List Call
rival_commits =
    deliver 0 6 1 1 ∷ deliver 1 6 0 1 ∷ deliver 2 6 0 1 ∷ deliver 3 6 0 1 ∷ enter 0 ∷ enter 1 ∷ enter 2 ∷ enter 3
    ∷ forge 4 1 0 [] ∷ forge 4 1 0 (0 ∷ []) ∷ seal 4 2 13 ∷ seal 4 2 14 ∷ deliver 0 1 0 13 ∷ deliver 1 1 0 13 ∷ deliver 2 1 0 14 ∷ deliver 3 1 0 14
    ∷ echo 0 13 ∷ echo 1 13 ∷ echo 2 14 ∷ echo 3 14 ∷ deliver 0 3 0 13 ∷ deliver 1 3 0 13 ∷ deliver 2 3 0 14 ∷ deliver 3 3 0 14
    ∷ finish 0 13 ∷ finish 1 13 ∷ finish 2 14 ∷ finish 3 14 ∷ seal 4 4 13 ∷ seal 4 4 14 ∷ deliver 0 5 0 13 ∷ deliver 2 5 0 14 ∷ commit 0 13 ∷ commit 2 14 ∷ []

-- the state after calls by the first misreading
abbrev pub run_sooner : List Call → World
run_sooner cs = run_by (verdict_sooner five) (effect five) (opening five) cs

-- The seats 0 and 1 echo block 7, then the corrupt seat's block 10, which comes late and is of lower rank; all three finish block 7.
abbrev pub two_noted : List Call
two_noted =
    begun ++ (tick 0 3 ∷ tick 1 3 ∷ tick 2 3 ∷ propose 2 0 (3 ∷ []) ∷ deliver 0 1 0 7 ∷ deliver 1 1 0 7 ∷ echo 0 7 ∷ echo 1 7 ∷ echo 2 7
    ∷ forge 3 1 0 (4 ∷ []) ∷ seal 3 2 10 ∷ deliver 0 1 0 10 ∷ deliver 1 1 0 10 ∷ echo 0 10 ∷ echo 1 10
    ∷ deliver 0 3 0 7 ∷ deliver 1 3 0 7 ∷ deliver 2 3 0 7 ∷ finish 0 7 ∷ finish 1 7 ∷ finish 2 7 ∷ [])

-- the state after calls by the second misreading
abbrev pub run_final_always : List Call → World
run_final_always cs = run_by (verdict four) (effect_final_always four) (opening four) cs

-- what tells the misreadings apart from the rules
pub record Misreadings : Type 0 where
  -- with n = 5 and t = 1 two sets of 2 × t + 1 seats may share no honest seat; a quorum is four
  pub five_lawful : Lawful five
  pub four_are_needed : quorum five ≡ 4
  pub one_is_small_quorum : tally one_three 5 ≡ small_quorum five
  pub other_is_small_quorum : tally other_three 5 ≡ small_quorum five
  pub no_honest_in_both : tally (λ s. honest five s && (one_three s && other_three s)) 5 ≡ 0
  -- so with small quorums two honest seats commit rival blocks; by the rules the same calls commit nothing
  pub small_quorum_accepts : accepts_by (verdict_sooner five) (effect five) (opening five) rival_commits ≡ true
  pub small_quorum_disagrees : Agree ((run_sooner rival_commits).seat 0).catalogue ((run_sooner rival_commits).seat 2).catalogue → ⊥
  pub quorum_commits_neither : (((run five rival_commits).seat 0).catalogue ≡ []) × (((run five rival_commits).seat 2).catalogue ≡ [])
  -- where a finish always seals its finalization share, block 7 is final and block 10 of its round notarized
  pub final_always_accepts : accepts_by (verdict four) (effect_final_always four) (opening four) two_noted ≡ true
  pub final_always_finalizes : exists four (run_final_always two_noted) (finalization 7) ≡ true
  pub final_always_notarizes : exists four (run_final_always two_noted) (notarization 10) ≡ true
  pub of_one_round : round_of four 7 ≡ round_of four 10
  -- by the rules the same calls are accepted too, and block 7 is not final
  pub rules_accept : accepts four two_noted ≡ true
  pub rules_do_not_finalize : exists four (run four two_noted) (finalization 7) ≡ false
  -- the second block of a rank: the rules accept its echo and pass it on, the misreading broadcasts nothing
  pub second_accepted : verdict four (run four doubled) (echo 0 11) ≡ accepted
  pub second_passed_on : broadcast four (run four doubled) (echo 0 11) ≡ block 11 ∷ []
  pub second_kept_back : echo_kept_back four (run four doubled) 0 11 ≡ []
