-- A plan that was just taken from a draw.
use Rattle.std.proofs.Common.{◌≡◌, ℕ, ◌+◌, ◌*◌, ◌≤◌, false, cond, ◌&&◌, ltb, leb, List, get_or, Ok, Err, sym, ap, ◌∙◌, arith}
use Rattle.std.proofs.lemmas.Bool.{cond-true, and_from, le-leb, le-ltb}
use Rattle.basics.specs.Bit.{bit}
use Rattle.basics.specs.Count.{tally}
use Rattle.basics.proofs.BitLaws.{bit_none}
use Rattle.basics.proofs.CountLaws.{tally_none}
use Rattle.model.specs.Setup.{Plan as Model}
use Rattle.plans.specs.Tables.{rank_in, like_in}
use Rattle.plans.specs.Setup.{drawn_rank, fresh_plan, planned}
use Rattle.plans.specs.declared.fault.PlanFault.TheVariants.{TooFewSeats, LongDelay}

pub none_corrupt : (n t : ℕ) → tally (bit 0) n ≤ t
none_corrupt n t = let e = tally_none (bit 0) n (λ k h. bit_none k) in omega arith

-- the plan of the rules that its fields stand for
pub fresh_is : (n R : ℕ) (rank : ℕ → ℕ → ℕ) (t d e : ℕ) (ranks rows : List ℕ) → rank_in n R ranks ≡ drawn_rank n R rank
    → ◌≡◌ {A = Model} (record { n = n; t = t; rounds = R; d = d; e = e; rank = rank_in n R ranks; corrupt = bit 0; entries = 0; like = like_in 0 rows }) (fresh_plan n R rank t d e)
fresh_is n R rank t d e ranks rows taken =
    let corrupt : bit 0 ≡ (λ (s : ℕ). false) = (λ i s. bit_none s i) in
    let none : (x y : ℕ) → like_in 0 rows x y ≡ false = (λ x y. ap (λ b. (b && ltb y 0) && bit (get_or rows x 0) y) (le-ltb x 0 (omega arith))) in
    λ i. record { n = n; t = t; rounds = R; d = d; e = e; rank = taken i; corrupt = corrupt i; entries = 0; like = λ x y. none x y i }

pub planned_is : (n R : ℕ) (rank : ℕ → ℕ → ℕ) (t d e : ℕ) → 3 * t + 1 ≤ n → d ≤ 10000 → e ≤ 10000 → Ok (fresh_plan n R rank t d e) ≡ planned n R rank t d e
planned_is n R rank t d e many hd he =
    sym (cond-true (leb (3 * t + 1) n) (cond (leb d 10000 && leb e 10000) (Ok (fresh_plan n R rank t d e)) (Err LongDelay)) (Err TooFewSeats) (le-leb _ _ many)
    ∙ cond-true (leb d 10000 && leb e 10000) (Ok (fresh_plan n R rank t d e)) (Err LongDelay) (and_from (leb d 10000) (leb e 10000) (le-leb _ _ hd) (le-leb _ _ he)))
