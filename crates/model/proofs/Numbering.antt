-- The numbering of blocks: a number says its round, maker and variant.
use Rattle.std.proofs.Common.{◌≡◌, ℕ, zero, suc, ◌+◌, ◌-◌, ◌*◌, ◌/◌, ◌%◌, ◌<◌, ◌≤◌, Bool, cond, sym, refl, ap, ◌∙◌, mul-le-mul_right, mod-lt, div-lt_iff_lt-mul, div-add-mod', arith}
use lib.Arith.{digits_div, digits_mod}
use Rattle.std.proofs.lemmas.Bool.{ne_eqb}
use Rattle.model.specs.Setup.{Plan, Lawful, number, round_of, maker_of, rank_of, numbers}

round_of_block : (p : Plan) (b : ℕ) → 1 ≤ b → round_of p b ≡ (b - 1) / 3 / p.n + 1
round_of_block p b h = ap (λ (x : Bool). cond x 0 ((b - 1) / 3 / p.n + 1)) (ne_eqb b 0 (λ e. omega arith))

pub earlier_is_root : (p : Plan) (b : ℕ) → round_of p b ≡ 0 → b ≡ 0
earlier_is_root p zero h = refl
earlier_is_root p (suc b) h = absurd (let q = round_of_block p (suc b) (omega arith) in omega arith)

pub number_pos : (p : Plan) (k s v : ℕ) → 1 ≤ number p k s v
number_pos p k s v = omega arith

number_less_one : (p : Plan) (k s v : ℕ) → number p k s v - 1 ≡ ((k - 1) * p.n + s) * 3 + v
number_less_one p k s v = omega arith

pub number_variant : (p : Plan) (k s v : ℕ) → v < 3 → (number p k s v - 1) % 3 ≡ v
number_variant p k s v h = rw (number_less_one p k s v) (digits_mod ((k - 1) * p.n + s) h)

number_pair : (p : Plan) (k s v : ℕ) → v < 3 → (number p k s v - 1) / 3 ≡ (k - 1) * p.n + s
number_pair p k s v h = rw (number_less_one p k s v) (digits_div ((k - 1) * p.n + s) h)

pub number_maker : (p : Plan) (k s v : ℕ) → s < p.n → v < 3 → maker_of p (number p k s v) ≡ s
number_maker p k s v l h = rw (number_pair p k s v h) (digits_mod (k - 1) l)

pub number_round : (p : Plan) (k s v : ℕ) → 1 ≤ k → s < p.n → v < 3 → round_of p (number p k s v) ≡ k
number_round p k s v one l h =
    let e : (number p k s v - 1) / 3 / p.n ≡ k - 1 = rw (number_pair p k s v h) (digits_div (k - 1) l) in
    let q = round_of_block p (number p k s v) (number_pos p k s v) in
    omega arith

-- a number past the last seat is of the next round
pub number_out : (p : Plan) (k v : ℕ) → Lawful p → 1 ≤ k → v < 3 → round_of p (number p k p.n v) ≡ k + 1
number_out p k v law one h =
    let m : k * p.n ≡ (k - 1 + 1) * p.n = ap (λ (x : ℕ). x * p.n) (omega arith) in
    let e : (number p k p.n v - 1) / 3 ≡ k * p.n + 0 = number_pair p k p.n v h ∙ omega arith in
    let d : (number p k p.n v - 1) / 3 / p.n ≡ k = rw e (digits_div k (omega (arith, law.faults))) in
    omega (arith, round_of_block p (number p k p.n v) (number_pos p k p.n v))

pub number_below : (p : Plan) (k s v : ℕ) → 1 ≤ k → k ≤ p.rounds → s < p.n → v < 3 → number p k s v < numbers p
number_below p k s v one high l h =
    let q : (k - 1 + 1) * p.n ≤ p.rounds * p.n = mul-le-mul_right p.n (omega arith) in
    omega arith

-- and a number in range is of a round in range
pub round_below : (p : Plan) (b : ℕ) → Lawful p → b < numbers p → round_of p b ≤ p.rounds
round_below p zero law h = omega arith
round_below p (suc b) law h =
    let third : (suc b - 1) / 3 < p.rounds * p.n = (div-lt_iff_lt-mul (omega arith)).1 (omega arith) in
    let q : (suc b - 1) / 3 / p.n < p.rounds = (div-lt_iff_lt-mul (omega (arith, law.faults))).1 third in
    omega (arith, round_of_block p (suc b) (omega arith))

pub maker_below : (p : Plan) (b : ℕ) → Lawful p → maker_of p b < p.n
maker_below p b law = mod-lt ((b - 1) / 3) (omega (arith, law.faults))

pub rank_below : (p : Plan) (b : ℕ) → Lawful p → rank_of p b < p.n
rank_below p b law = law.rank_below (round_of p b) (maker_of p b) (maker_below p b law)

-- round, maker and variant determine a block
pub same_number : (p : Plan) (b c : ℕ) → 1 ≤ b → 1 ≤ c → round_of p b ≡ round_of p c → maker_of p b ≡ maker_of p c →
    (b - 1) % 3 ≡ (c - 1) % 3 → b ≡ c
same_number p b c hb hc r m v =
    let rb = round_of_block p b hb in
    let rc = round_of_block p c hc in
    let e : (b - 1) / 3 / p.n ≡ (c - 1) / 3 / p.n = omega arith in
    let q : (b - 1) / 3 ≡ (c - 1) / 3 = sym (div-add-mod' ((b - 1) / 3) p.n) ∙ (λ i. e i * p.n + m i) ∙ div-add-mod' ((c - 1) / 3) p.n in
    omega arith
