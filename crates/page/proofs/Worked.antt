-- The worked pages are what the rules compute.
use Rattle.std.proofs.Common.{refl}
use Rattle.basics.specs.Bit.{bit}
use Rattle.page.specs.First.{named}
use Rattle.page.specs.Listing.{WorkedPages}

pub worked_pages : WorkedPages
unfolding bit named
worked_pages = record {
  one_seat = refl;
  empty = refl;
  cut = refl;
  no_ranks = refl;
  two_corrupt = refl;
  no_calls = refl;
  goes_on = refl;
}
