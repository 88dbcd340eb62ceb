-- Setting a plan up: what taking a draw, naming a corrupt seat and taking entries answer, and the plan after.
use Rattle.std.specs.Prelude.{ℕ, ◌+◌, ◌*◌, Bool, true, false, cond, not, ◌&&◌, List, length, Some, None, Ok, Err, Option, Result, nat_le, nat_lt, slice_get}
use Rattle.basics.specs.Put.{put}
use Rattle.basics.specs.Count.{tally}
use Rattle.model.specs.Setup.{Plan as Model}
use Rattle.draws.specs.Ranks.{drawn}
use Rattle.plans.specs.Planned.{model}
use Rattle.plans.specs.declared.plan.Plan.{Plan}
use Rattle.plans.specs.declared.fault.PlanFault.{PlanFault}
use Rattle.plans.specs.declared.fault.PlanFault.TheVariants.{TooFewSeats, LongDelay, Corrupt, ManyEntries}

-- the ranks of a draw with n seats and R rounds; outside of them, a seat's own number
abbrev pub drawn_rank : ℕ → ℕ → (ℕ → ℕ → ℕ) → ℕ → ℕ → ℕ
drawn_rank n R rank k s = cond (drawn n R k s) (rank k s) s

-- a plan from a draw, with no corrupt seat and no entries yet
abbrev pub fresh_plan : ℕ → ℕ → (ℕ → ℕ → ℕ) → ℕ → ℕ → ℕ → Model
fresh_plan n R rank t d e = record {
  n = n;
  t = t;
  rounds = R;
  d = d;
  e = e;
  rank = drawn_rank n R rank;
  corrupt = λ _. false;
  entries = 0;
  like = λ _ _. false;
}

-- what taking a draw answers
abbrev pub planned : ℕ → ℕ → (ℕ → ℕ → ℕ) → ℕ → ℕ → ℕ → Result Model PlanFault
planned n R rank t d e =
    cond (nat_le (3 * t + 1) n) (cond (nat_le d 10000 && nat_le e 10000) (Ok (fresh_plan n R rank t d e)) (Err LongDelay)) (Err TooFewSeats)

-- an answer, with the plan of the rules in place of the code's
abbrev pub modelled : Result Plan PlanFault → Result Model PlanFault
modelled (Ok x) = Ok (model x)
modelled (Err f) = Err f

-- whether a seat can still be named corrupt: it is one of the seats, not named yet, and fewer than t are
abbrev pub can_be_corrupt : Model → ℕ → Bool
can_be_corrupt p s = nat_lt s p.n && (not (p.corrupt s) && nat_lt (tally p.corrupt p.n) p.t)

abbrev pub named_corrupt : Model → ℕ → Result (Unit {0}) PlanFault
named_corrupt p s = cond (can_be_corrupt p s) (Ok tt) (Err (Corrupt s))

-- the plan with one corrupt seat more
abbrev pub with_corrupt : ℕ → Model → Model
with_corrupt s p = record {
  n = p.n;
  t = p.t;
  rounds = p.rounds;
  d = p.d;
  e = p.e;
  rank = p.rank;
  corrupt = put s true p.corrupt;
  entries = p.entries;
  like = p.like;
}

-- whether both are there and alike
abbrev pub both_alike : {E : Type 0} → (E → E → Bool) → Option E → Option E → Bool
both_alike alike (Some x) (Some y) = alike x y
both_alike alike (Some x) None = false
both_alike alike None (Some y) = false
both_alike alike None None = false

-- whether two places of a table hold like entries
abbrev pub places_alike : {E : Type 0} → (E → E → Bool) → List E → ℕ → ℕ → Bool
places_alike alike xs i j = both_alike alike (slice_get xs i) (slice_get xs j)

-- the plan with these entries in place of those before
abbrev pub with_entries : {E : Type 0} → (E → E → Bool) → List E → Model → Model
with_entries alike xs p = record {
  n = p.n;
  t = p.t;
  rounds = p.rounds;
  d = p.d;
  e = p.e;
  rank = p.rank;
  corrupt = p.corrupt;
  entries = length xs;
  like = places_alike alike xs;
}

abbrev pub entries_taken : {E : Type 0} → List E → Result (Unit {0}) PlanFault
entries_taken xs = cond (nat_le (length xs) 128) (Ok tt) (Err ManyEntries)
