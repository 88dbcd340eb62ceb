-- Closed runs: a lawful plan with a corrupt seat, lists of calls on it, and what they come to, as a computation shows.
use Rattle.std.specs.Prelude.{◌≡◌, ℕ, ◌-◌, ◌<◌, Bool, true, false, cond, ◌&&◌, ◌||◌, List, [], ◌∷◌, ◌++◌, ◌==◌}
use Rattle.basics.specs.Count.{tally}
use Rattle.model.specs.Setup.{Plan, Lawful, honest}
use Rattle.model.specs.World.{World, block, shares, places_of}
use Rattle.model.specs.Checks.{Call, Verdict, verdict}
use Rattle.model.specs.Checks.Call.{tick, enter, propose, echo, finish, commit, deliver, forge, seal}
use Rattle.model.specs.Checks.Verdict.{accepted, refused}
use Rattle.model.specs.Effects.{effect, opening, is_accepted}
use Rattle.model.specs.Journal.{Line, Kept}
use Rattle.model.specs.Promises.{AllDone}

-- Runs under any rules: the answer to a call, and what an accepted one does.
module _ (answer : World → Call → Verdict) (outcome : World → Call → World) where
  -- the state after a call: a refused one changes nothing
  abbrev pub step_by : World → Call → World
  step_by w c = cond (is_accepted (answer w c)) (outcome w c) w

  -- the state after calls made one after another
  abbrev pub run_by : World → List Call → World
  run_by w [] = w
  run_by w (c ∷ cs) = run_by (step_by w c) cs

  -- whether each of them is accepted
  abbrev pub accepts_by : World → List Call → Bool
  accepts_by w [] = true
  accepts_by w (c ∷ cs) = is_accepted (answer w c) && accepts_by (step_by w c) cs

  -- their lines in the journal
  abbrev pub lines_by : World → List Call → List Line
  lines_by w [] = []
  lines_by w (c ∷ cs) = record { call = c; answer = answer w c } ∷ lines_by (step_by w c) cs

-- Runs under the rules of this crate, from the opening.
-- the state after calls
abbrev pub run : Plan → List Call → World
run p cs = run_by (verdict p) (effect p) (opening p) cs

-- whether each of them is accepted
abbrev pub accepts : Plan → List Call → Bool
accepts p cs = accepts_by (verdict p) (effect p) (opening p) cs

-- their journal
abbrev pub journal : Plan → List Call → List Line
journal p cs = lines_by (verdict p) (effect p) (opening p) cs

-- the nine sorts of call, from 0
abbrev pub sort_of : Call → ℕ
sort_of (tick _ _) = 0
sort_of (enter _) = 1
sort_of (propose _ _ _) = 2
sort_of (echo _ _) = 3
sort_of (finish _ _) = 4
sort_of (commit _ _) = 5
sort_of (deliver _ _ _ _) = 6
sort_of (forge _ _ _ _) = 7
sort_of (seal _ _ _) = 8

-- whether a list has a call of a sort
abbrev pub has_sort : List Call → ℕ → Bool
has_sort [] k = false
has_sort (c ∷ cs) k = sort_of c == k || has_sort cs k

-- Four seats, of which seat 3 is corrupt and has rank 0 in both rounds; seat 2 has rank 1.
abbrev pub four : Plan
four = record {
  n = 4;
  t = 1;
  rounds = 2;
  d = 1;
  e = 1;
  rank = λ k s. 3 - s;
  corrupt = λ s. (s == 3);
  entries = 5;
  like = λ x y. (x == y);
}

-- the honest seats enter round 1
abbrev pub begun : List Call
begun = deliver 0 6 1 1 ∷ deliver 1 6 0 1 ∷ deliver 2 6 0 1 ∷ enter 0 ∷ enter 1 ∷ enter 2 ∷ []

-- Round 1, with all nine sorts of call: block 7 of seat 2 is notarized with the corrupt seat's share, finalized, and committed by seat 0.
abbrev pub first_round : List Call
first_round =
    begun ++ (tick 2 2 ∷ propose 2 0 (3 ∷ []) ∷ forge 3 1 0 (4 ∷ []) ∷ seal 3 2 7 ∷ tick 0 3 ∷ tick 1 3 ∷ tick 2 3
    ∷ deliver 0 1 0 7 ∷ deliver 1 1 0 7 ∷ echo 0 7 ∷ echo 1 7 ∷ echo 2 7 ∷ deliver 0 2 1 7 ∷ deliver 0 2 3 7 ∷ finish 0 7
    ∷ deliver 1 3 0 7 ∷ deliver 2 3 0 7 ∷ finish 1 7 ∷ finish 2 7 ∷ deliver 0 4 1 7 ∷ deliver 0 4 2 7 ∷ commit 0 7 ∷ [])

-- Round 2, on block 7 of round 1: seat 1, which has committed nothing, commits block 19 and with it block 7.
abbrev pub second_round : List Call
second_round =
    deliver 0 6 1 2 ∷ deliver 1 6 0 2 ∷ deliver 2 6 0 2 ∷ enter 0 ∷ enter 1 ∷ enter 2 ∷ tick 2 5 ∷ propose 2 7 (1 ∷ []) ∷ tick 0 6 ∷ tick 1 6 ∷ tick 2 6
    ∷ deliver 0 1 0 19 ∷ deliver 1 1 0 19 ∷ echo 0 19 ∷ echo 1 19 ∷ echo 2 19 ∷ deliver 1 2 0 19 ∷ deliver 1 2 2 19 ∷ finish 1 19
    ∷ deliver 0 3 0 19 ∷ deliver 2 3 0 19 ∷ finish 0 19 ∷ finish 2 19 ∷ deliver 1 4 0 19 ∷ deliver 1 4 2 19 ∷ commit 1 19 ∷ []

-- Seat 2, of rank 1, enters round 2 at its time 3 and lets one tick pass.
abbrev pub too_early : List Call
too_early = first_round ++ (deliver 2 6 0 2 ∷ enter 2 ∷ tick 2 4 ∷ [])

-- The corrupt seat makes two blocks of rank 0, 10 and 11; seat 0 seals the one. Block 7 of rank 1 is there too.
abbrev pub doubled : List Call
doubled =
    begun ++ (forge 3 1 0 (4 ∷ []) ∷ forge 3 1 0 (2 ∷ []) ∷ tick 2 2 ∷ propose 2 0 (3 ∷ []) ∷ tick 0 3 ∷ tick 1 3
    ∷ deliver 0 1 0 10 ∷ deliver 0 1 0 11 ∷ deliver 0 1 0 7 ∷ deliver 1 1 0 11 ∷ deliver 1 1 0 7 ∷ echo 0 10 ∷ [])

-- Seat 0 then disqualifies the rank by echoing the other.
abbrev pub disqualified_once : List Call
disqualified_once = doubled ++ (echo 0 11 ∷ [])

-- The corrupt seat makes the blocks 10 and 11, seals both, and shows one to seat 0 and the other to seat 1: the echoes are split.
abbrev pub split_echoes : List Call
split_echoes =
    begun ++ (forge 3 1 0 (4 ∷ []) ∷ forge 3 1 0 (2 ∷ []) ∷ seal 3 2 10 ∷ seal 3 2 11 ∷ tick 0 3 ∷ tick 1 3 ∷ tick 2 3
    ∷ propose 2 0 (3 ∷ []) ∷ echo 2 7 ∷ deliver 0 1 0 10 ∷ deliver 1 1 0 11 ∷ echo 0 10 ∷ echo 1 11 ∷ [])

-- Each of the two learns of the other's block, disqualifies the rank and echoes block 7, which is notarized; both saw another block, so only seat 2 seals it as final.
abbrev pub round_saved : List Call
round_saved =
    deliver 0 1 0 11 ∷ echo 0 11 ∷ deliver 1 1 0 10 ∷ echo 1 10 ∷ deliver 0 1 0 7 ∷ deliver 1 1 0 7 ∷ echo 0 7 ∷ echo 1 7
    ∷ deliver 2 2 0 7 ∷ deliver 2 2 1 7 ∷ finish 2 7 ∷ deliver 0 3 0 7 ∷ deliver 1 3 0 7 ∷ finish 0 7 ∷ finish 1 7 ∷ []

-- The split, round 1 saved, round 2, and the other two seats commit.
abbrev pub split_to_the_end : List Call
split_to_the_end =
    split_echoes ++ (round_saved ++ (second_round ++ (deliver 0 5 0 19 ∷ commit 0 19 ∷ deliver 2 5 0 19 ∷ commit 2 19 ∷ [])))

-- what the runs come to
pub record ClosedRuns : Type 0 where
  -- the plan is one that the promises are made for, and each run is that of a complete journal
  pub plan_lawful : Lawful four
  pub runs_are_journaled : (p : Plan) (cs : List Call) → Kept p (journal p cs) (run p cs)
  -- one round with every sort of call, and a committed block with its entry
  pub nine_sorts : tally (has_sort first_round) 9 ≡ 9
  pub nine_sorts_accepted : accepts four first_round ≡ true
  pub one_committed : ((run four first_round).seat 0).catalogue ≡ 7 ∷ []
  pub entry_committed : places_of (run four first_round) (7 ∷ []) ≡ 3 ∷ []
  -- a second round, whose commit takes two blocks
  pub two_rounds_accepted : accepts four (first_round ++ second_round) ≡ true
  pub two_committed_at_once : ((run four (first_round ++ second_round)).seat 1).catalogue ≡ 7 ∷ 19 ∷ []
  -- time is counted from the round's start: with 2 × d × r = 2 seat 2 may propose from 5 on, and with e = 1 echo its block from 6 on
  pub proposal_too_early : verdict four (run four too_early) (propose 2 7 (1 ∷ [])) ≡ refused 14 4 2 7
  pub echo_too_early : verdict four (run four (too_early ++ (tick 2 5 ∷ propose 2 7 (1 ∷ []) ∷ []))) (echo 2 19) ≡ refused 14 4 2 19
  pub echo_in_time : accepts four (too_early ++ (tick 2 5 ∷ propose 2 7 (1 ∷ []) ∷ tick 2 6 ∷ echo 2 19 ∷ [])) ≡ true
  -- a rank is disqualified: its second block is passed on and not sealed, and the next rank may be echoed
  pub disqualifying_accepted : accepts four disqualified_once ≡ true
  pub rank_disqualified : ((run four disqualified_once).seat 0).disqualified 0 ≡ true
  pub second_passed_on : (run four disqualified_once).posted (block 11) ≡ true
  pub second_not_sealed : (run four disqualified_once).sealed 2 0 11 ≡ false
  pub next_rank_accepted : verdict four (run four disqualified_once) (echo 0 7) ≡ accepted
  -- where it is not disqualified, the better block is named
  pub better_named : verdict four (run four disqualified_once) (echo 1 7) ≡ refused 20 4 1 11
  -- echoes are split between two blocks of the corrupt seat: each lacks one seal of n − t, though the corrupt seat sealed both
  pub split_accepted : accepts four split_to_the_end ≡ true
  pub one_sealed_here : (run four split_echoes).sealed 2 0 10 ≡ true
  pub other_sealed_there : (run four split_echoes).sealed 2 1 11 ≡ true
  pub one_lacks_seals : shares (run four split_to_the_end) 4 2 10 ≡ 2
  pub other_lacks_seals : shares (run four split_to_the_end) 4 2 11 ≡ 2
  -- and still all honest seats get to the end, with one catalogue
  pub split_all_done : AllDone four (run four split_to_the_end)
  pub split_one_catalogue : (s : ℕ) → s < 4 → honest four s ≡ true → ((run four split_to_the_end).seat s).catalogue ≡ 7 ∷ 19 ∷ []
