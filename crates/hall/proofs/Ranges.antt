-- What a known block's number says.
use Rattle.std.proofs.Common.{◌≡◌, ℕ, ◌+◌, ◌-◌, ◌*◌, ◌/◌, ◌<◌, ◌≤◌, true, ◌&&◌, eqb, ltb, ap, ⊎_elim, div-lt_iff_lt-mul, arith}
use Rattle.std.proofs.lemmas.Bool.{or_cases, and_parts, eqb-true, ltb-true, cond-false, ne_eqb, cases_eq}
use Rattle.model.specs.Setup.{numbers, round_of}
use Rattle.model.specs.World.{World}
use Rattle.model.specs.Checks.{known}
use Rattle.plans.specs.declared.plan.Plan.{Plan}
use Rattle.plans.specs.Planned.{model}

-- it is of one of the plan's rounds
pub known_round : (x : Plan) (w : World) (b : ℕ) → known (model x) w b ≡ true → round_of (model x) b ≤ 8
known_round x w b h =
    let p = model x in
    ⊎_elim
    (λ (e : b ≡ 0). let z : round_of p b ≡ 0 = ap (round_of p) e in omega arith)
    (λ (ne : b ≡ 0 → ⊥).
    let low : b < numbers p = ⊎_elim (λ z. absurd (ne (eqb-true b 0 z))) (λ z. ltb-true b (numbers p) (and_parts (ltb b (numbers p)) (w.made b) z).0) (or_cases (eqb b 0) (ltb b (numbers p) && w.made b) h) in
    let third : (b - 1) / 3 < p.rounds * p.n = omega arith in
    let round : (b - 1) / 3 / p.n < p.rounds = (div-lt_iff_lt-mul x.sizes.within.some_seat).1 third in
    let is : round_of p b ≡ (b - 1) / 3 / p.n + 1 = cond-false (eqb b 0) 0 ((b - 1) / 3 / p.n + 1) (ne_eqb b 0 ne) in
    omega (arith, is, round, x.sizes.within.few_rounds))
    (cases_eq b 0)
