-- Which cards, and which slips, are alike.
use Rattle.std.specs.Prelude.{Bool, ◌&&◌, ◌||◌, ◌==◌}
use Rattle.entries.specs.declared.card.Card.{Card}
use Rattle.entries.specs.declared.slip.Slip.{Slip}

-- the store and the find number agree
abbrev pub cards_alike : Card → Card → Bool
cards_alike x y = x.store == y.store && x.find == y.find

-- both join the same two sherds, in any order
abbrev pub slips_alike : Slip → Slip → Bool
slips_alike x y = (x.one == y.one && x.other == y.other) || (x.one == y.other && x.other == y.one)
