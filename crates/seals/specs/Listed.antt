-- The seals that a list of records holds, oldest first.
use Rattle.std.specs.Prelude.{◌≡◌, ℕ, Bool, true, false, not, ◌&&◌, List, [], ◌∷◌, ◌==◌}
use Rattle.std.specs.List.{list_any}
use Rattle.std.proofs.Common.{ap}
use Rattle.seals.specs.Seals.{allowed}
use Rattle.seals.specs.declared.record.SealRecord.{SealRecord}

-- the record is of this seal
abbrev pub is : SealRecord → ℕ → ℕ → ℕ → Bool
is x k s b = x.kind == k && (x.seat == s && x.subject == b)

-- some record of the list is
abbrev pub listed : List SealRecord → ℕ → ℕ → ℕ → Bool
listed xs k s b = list_any (λ x. is x k s b) xs

-- the list has only seals that there can be, and none twice
abbrev pub sound : List SealRecord → Bool
sound [] = true
sound (x ∷ xs) = (allowed x.kind x.seat x.subject && not (listed xs x.kind x.seat x.subject)) && sound xs

-- the set that the list stands for
abbrev pub list_holds : List SealRecord → ℕ → ℕ → ℕ → Bool
list_holds xs k s b = allowed k s b && listed xs k s b

-- a seal outside the ranges is never held (the value of a ghost member, so it stands here)
pub list_inside : (xs : List SealRecord) (k s b : ℕ) → allowed k s b ≡ false → list_holds xs k s b ≡ false
list_inside xs k s b h = ap (λ a. a && listed xs k s b) h
