-- The worked examples are what the definitions compute.
use mathlib.Core.Path.{refl}
use Rattle.basics.specs.Bit.{bit}
use Rattle.page.specs.First.{named}
use Rattle.page.proofs.Worked.{worked_pages}
use Rattle.worked.specs.Examples.{WorkedExamples}

pub worked_examples : WorkedExamples
unfolding bit named
worked_examples = record {
  four_stand = refl;
  three_refused = refl;
  thirteen_and_eight_stand = refl;
  fourteen_refused = refl;
  nine_refused = refl;
  block_17 = refl;
  seat_0_third = refl;
  seat_1_leads = refl;
  seat_2_first = refl;
  seat_3_second = refl;
  propose_at_139 = refl;
  propose_at_140 = refl;
  echo_at_142 = refl;
  echo_at_143 = refl;
  three_short = refl;
  three_make_none = refl;
  four_suffice = refl;
  four_make_one = refl;
  slips_in_any_order = refl;
  one_find_in_two_stores = refl;
  pages = worked_pages;
}
