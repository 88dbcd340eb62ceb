-- The plan of the rules that a plan of the code stands for.
use Rattle.std.specs.Prelude.{ℕ, Option, nat_eq}
use Rattle.basics.specs.Bit.{bit}
use Rattle.basics.specs.Count.{some_below}
use Rattle.basics.specs.Numbers.{only_if}
use Rattle.model.specs.Setup.{Plan as Model}
use Rattle.model.specs.Setup.{holder}
use Rattle.plans.specs.Tables.{rank_in, like_in}
use Rattle.plans.specs.declared.plan.Plan.{Plan}

-- the plan of the rules
abbrev pub model : Plan → Model
model x = record {
  n = x.sizes.seats;
  t = x.most_corrupt;
  rounds = x.sizes.rounds;
  d = x.d;
  e = x.e;
  rank = rank_in x.sizes.seats x.sizes.rounds x.ranks;
  corrupt = bit x.corrupt;
  entries = x.entries;
  like = like_in x.entries x.likeness;
}

-- the seat that has the rank q in round k, if one of the seats has
abbrev pub held_by : Model → ℕ → ℕ → Option ℕ
held_by p k q = only_if (some_below (λ s. nat_eq (p.rank k s) q) p.n) (holder p k q)
