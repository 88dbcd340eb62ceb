-- At the beginning of a round nothing is noted and nothing is disqualified.
use Rattle.std.proofs.Common.{◌≡◌, ℕ, Bool, false, get_or, replicate, refl}
use Rattle.basics.specs.Bit.{bit}
use Rattle.basics.proofs.BitLaws.{bit_none}
use Rattle.tree.proofs.Unmade.{each_repeated}

pub none_noted : ◌≡◌ {A = ℕ → Bool} (λ b. get_or (replicate 313 false) b false) (λ _. false)
none_noted = λ i b. each_repeated (λ (x : Bool). x) false false false refl refl 313 b i

pub none_disqualified : ◌≡◌ {A = ℕ → Bool} (bit 0) (λ _. false)
none_disqualified = λ i r. bit_none r i
