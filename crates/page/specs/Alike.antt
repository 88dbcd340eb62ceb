-- Which entries of a page are alike.
use Rattle.std.specs.Prelude.{Bool, false}
use Rattle.entries.specs.Likeness.{cards_alike, slips_alike}
use Rattle.page.specs.declared.types.PageEntry.{PageEntry}
use Rattle.page.specs.declared.types.PageEntry.TheVariants.{Card, Slip}

-- two entries of a page: a card and a slip are never alike
abbrev pub entries_alike : PageEntry → PageEntry → Bool
entries_alike (Card x) (Card y) = cards_alike x y
entries_alike (Slip x) (Slip y) = slips_alike x y
entries_alike (Card _) (Slip _) = false
entries_alike (Slip _) (Card _) = false
