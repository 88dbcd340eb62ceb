use Rattle.std.proofs.Common.{◌≡◌, ℕ, ◌-◌, Bool, true, false, cond, not, ◌&&◌, eqb, leb, get_or, Option, Some, None, refl, ap, ◌∙◌, rules}
use Rattle.basics.specs.Bit.{bit}
use Rattle.model.specs.Setup.{round_of, rank_of, ntry_delay}
use Rattle.model.specs.Setup.{Plan as Model}
use Rattle.model.specs.Checks.{Verdict, is_in_round, some_better, first_better}
use Rattle.model.specs.Checks.Call.{echo}
use Rattle.model.specs.Checks.Verdict.{accepted, refused}
use Rattle.plans.specs.Planned.{model}
use Rattle.tree.specs.declared.tree.Tree.{Tree}
use Rattle.tree.specs.Blocks.{valid_in}
use Rattle.seats.specs.declared.seat.Seat.{Seat}
use Rattle.seats.specs.Seated.{stage, pooled}
use Rattle.seats.specs.Desk.{bare_desk, verdict_past}
use Rattle.seats.specs.Searches.{best_in}
use Rattle.seats.proofs.seat.Seat.may_echo.Goals as goal

abbrev or_better : ℕ → Option ℕ → Verdict
or_better s (Some c) = refused 20 4 s c
or_better s None = accepted

-- the verdict before the last check
abbrev unless : Model → Tree → Seat → ℕ → ℕ → Verdict → Verdict
unless p t x s b last =
    cond (is_in_round (stage x.progress.phase))
    (cond (eqb (round_of p b) x.progress.round.value)
    (cond (not (get_or x.progress.noted b false) && not (bit x.progress.disqualified (rank_of p b)))
    (cond (valid_in p t (pooled x) (round_of p b) b)
    (cond (leb (ntry_delay p (rank_of p b)) (x.progress.clock - x.progress.start)) last
    (refused 14 4 s b)) (refused 18 4 s b)) (refused 16 4 s b)) (refused 17 4 s b)) (refused 12 4 s b)

last_check : (s first : ℕ) (found : Bool) → or_better s (cond found (Some first) None) ≡ cond (not found) accepted (refused 20 4 s first)
last_check s first true = refl
last_check s first false = refl

-- the search for a better block is the last check
searched : (p : Model) (t : Tree) (x : Seat) (s b : ℕ) → unless p t x s b (or_better s (best_in p t x (rank_of p b))) ≡ verdict_past 3 p (bare_desk t x) (echo s b)
unfolding valid_in best_in
searched p t x s b = ap (unless p t x s b) (last_check s (first_better p (bare_desk t x) s (rank_of p b)) (some_better p (bare_desk t x) s (rank_of p b)))

pub returns-in-Some : goal.returns-in-Some
returns-in-Some c =
    let p = model c.args.at.plan.now in
    let t = c.args.at.tree.now in
    let x = c.args.self.now in
    let s = c.args.at.who.value in
    let b = c.args.block.value in
    let e : refused 20 4 s c.in-Some.better.value ≡ unless p t x s b (or_better s (best_in p t x (rank_of p b))) = search rules in
    e ∙ searched p t x s b
