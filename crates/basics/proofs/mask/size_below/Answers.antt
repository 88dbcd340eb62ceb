-- The ones among the lowest n digits, or among all 16.
use Rattle.std.proofs.Common.{ℕ, ◌-◌, ◌^◌, ◌<◌, ap, ◌∙◌, arith}
use lib.Bits.{and_mask, bit_and}
use lib.Count.{ones, ones-le}
use Rattle.std.proofs.lemmas.Nat.{one_shl}
use Rattle.basics.specs.Bit.{bit}
use Rattle.basics.proofs.CountLaws.{ones_tally, ones_all, tally_le}
use Rattle.basics.proofs.mask.size_below.Goals as goal

pub returns-then-n-lt16 : goal.returns-then-n-lt16
returns-then-n-lt16 c =
    let m = c.args.m in
    let n = c.args.n in
    let small : n < 16 = c.if-n-lt16.true in
    let e = ap (λ (x : ℕ). ones (bit_and m (x - 1))) (one_shl n 16 small) ∙ ap ones (and_mask m n) ∙ ones_tally m n in
    let few = tally_le (bit m) n in
    record { count = e; few = omega arith; most = omega arith }

pub returns : goal.returns
returns c =
    let m = c.args.m in
    let n = c.args.n in
    let fits : m < 2 ^ 16 = omega arith in
    let e = ones_all 16 m n fits c.if-n-lt16.false in
    record { count = e; few = omega (arith, e, tally_le (bit m) n); most = ones-le 16 m fits }
