-- Worked examples: numbers worked out by hand, each as the definitions give it.
use Rattle.std.specs.Prelude.{◌≡◌, true, false, List, [], ◌∷◌, ◌++◌, ℕ, codes}
use Rattle.model.specs.Setup.{Plan, number}
use Rattle.model.specs.Checks.{Call, Verdict, verdict}
use Rattle.model.specs.Checks.Call.{tick, enter, propose, echo, finish, deliver}
use Rattle.model.specs.Checks.Verdict.{accepted, refused}
use Rattle.model.specs.Runs.{run}
use Rattle.draws.specs.Rotated.{rotated}
use Rattle.entries.specs.Likeness.{cards_alike, slips_alike}
use Rattle.plans.specs.Setup.{fresh_plan}
use Rattle.page.specs.Run.{page}
use Rattle.page.specs.Listing.{WorkedPages, sheet}
use Rattle.page.specs.declared.types.Sort.TheVariants.{Cards}

-- the plan that the rotation gives, without corrupt seats and entries
abbrev pub turning : (n t rounds d e : ℕ) → Plan
turning n t rounds d e = fresh_plan n rounds (rotated n) t d e

-- the answer to a call that comes after others
abbrev pub answer_after : Plan → List Call → Call → Verdict
answer_after p cs c = verdict p (run p cs) c

-- Four seats with d = 10 and e = 3.
abbrev pub waiters : Plan
waiters = turning 4 1 1 10 3

-- seat 2, of rank 2, enters round 1 at its time 100
abbrev pub from_100 : List Call
from_100 = deliver 2 6 0 1 ∷ tick 2 100 ∷ enter 2 ∷ []

-- and proposes its block, of number 7, as soon as it may
abbrev pub proposed_at_140 : List Call
proposed_at_140 = from_100 ++ (tick 2 140 ∷ propose 2 0 [] ∷ [])

-- Five seats without delays, one of which may be corrupt.
abbrev pub five : Plan
five = turning 5 1 1 0 0

-- a seat other than 0 enters round 1 and echoes block 1; seat 0 gets its share
abbrev pub echoed_by : ℕ → List Call
echoed_by s = deliver s 6 0 1 ∷ enter s ∷ deliver s 1 0 1 ∷ echo s 1 ∷ deliver 0 2 s 1 ∷ []

-- seat 0 proposes block 1; three seats seal it, seat 0 among them
abbrev pub three_shares : List Call
three_shares = deliver 0 6 1 1 ∷ enter 0 ∷ propose 0 0 [] ∷ echo 0 1 ∷ (echoed_by 1 ++ echoed_by 2)

-- and a fourth
abbrev pub four_shares : List Call
four_shares = three_shares ++ echoed_by 3

pub record WorkedExamples : Type 0 where
  -- with t = 1, four seats stand and three get 2
  pub four_stand : page Cards (sheet (codes "01040101000000000000" ∷ []))
      ≡ sheet (codes "e000000100" ∷ codes "e001000100" ∷ codes "e002000100" ∷ codes "e003000100" ∷ codes "ef000000000000" ∷ [])
  pub three_refused : page Cards (sheet (codes "01030101000000000000" ∷ [])) ≡ sheet (codes "f000010202000000" ∷ [])
  -- 13 seats and 8 rounds stand; 14 seats get 1, and so do 9 rounds
  pub thirteen_and_eight_stand : page Cards (sheet (codes "010d0108000000000000" ∷ []))
      ≡ sheet (codes "e000000100" ∷ codes "e001000100" ∷ codes "e002000100" ∷ codes "e003000100" ∷ codes "e004000100" ∷ codes "e005000100" ∷ codes "e006000100" ∷ codes "e007000100" ∷ codes "e008000100" ∷ codes "e009000100" ∷ codes "e00a000100" ∷ codes "e00b000100" ∷ codes "e00c000100" ∷ codes "ef000000000000" ∷ [])
  pub fourteen_refused : page Cards (sheet (codes "010e0108000000000000" ∷ [])) ≡ sheet (codes "f000010102000000" ∷ [])
  pub nine_refused : page Cards (sheet (codes "010d0109000000000000" ∷ [])) ≡ sheet (codes "f000010102000000" ∷ [])
  -- of four seats, seat 1's block of round 2 with variant 1 is block 17
  pub block_17 : number waiters 2 1 1 ≡ 17
  -- in round 2 the rotation gives the four seats the ranks 3, 0, 1 and 2
  pub seat_0_third : rotated 4 2 0 ≡ 3
  pub seat_1_leads : rotated 4 2 1 ≡ 0
  pub seat_2_first : rotated 4 2 2 ≡ 1
  pub seat_3_second : rotated 4 2 3 ≡ 2
  -- rank 2 proposes 40 after the round's start, and echoes 43 after it; a moment before, it is too early
  pub propose_at_139 : answer_after waiters (from_100 ++ (tick 2 139 ∷ [])) (propose 2 0 []) ≡ refused 14 4 2 0
  pub propose_at_140 : answer_after waiters (from_100 ++ (tick 2 140 ∷ [])) (propose 2 0 []) ≡ accepted
  pub echo_at_142 : answer_after waiters (proposed_at_140 ++ (tick 2 142 ∷ [])) (echo 2 7) ≡ refused 14 4 2 7
  pub echo_at_143 : answer_after waiters (proposed_at_140 ++ (tick 2 143 ∷ [])) (echo 2 7) ≡ accepted
  -- of five seats, three shares are short of a notarization and four suffice
  pub three_short : answer_after five three_shares (finish 0 1) ≡ refused 21 4 0 1
  pub three_make_none : answer_after five three_shares (deliver 0 3 0 1) ≡ refused 22 3 0 1
  pub four_suffice : answer_after five four_shares (finish 0 1) ≡ accepted
  pub four_make_one : answer_after five four_shares (deliver 0 3 0 1) ≡ accepted
  -- two slips that join the sherds 7 and 12 are alike in any order; find 17 of store 5 is not find 17 of store 6
  pub slips_in_any_order : slips_alike (record { one = 7; other = 12 }) (record { one = 12; other = 7 }) ≡ true
  pub one_find_in_two_stores : cards_alike (record { store = 5; find = 17 }) (record { store = 6; find = 17 }) ≡ false
  -- whole pages, bytes to bytes
  pub pages : WorkedPages
