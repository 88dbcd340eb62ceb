-- Places of the entry table, as lists and as sets.
use Rattle.std.specs.Prelude.{◌≡◌, ℕ, Bool, false, ◌&&◌, ◌||◌, List, [], ◌∷◌, ◌==◌, nat_lt}
use Rattle.basics.specs.Bit.{bit}
use Rattle.model.specs.Setup.{Plan as Model}
use Rattle.model.specs.World.{unlike_all}

-- whether the place y is in the list
abbrev pub among : List ℕ → ℕ → Bool
among [] y = false
among (x ∷ xs) y = x == y || among xs y

-- the mask is the set of those places of the list that are in the entry table
abbrev pub SetOf : Model → ℕ → List ℕ → Type 0
SetOf p mask ys = (y : ℕ) → bit mask y ≡ (nat_lt y p.entries && among ys y)

-- whether the place x can follow the places ys: it is in the entry table, and like none of them
abbrev pub can_follow : Model → List ℕ → ℕ → Bool
can_follow p ys x = nat_lt x p.entries && unlike_all p x ys
