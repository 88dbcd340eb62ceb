-- The numbers of a draw's refusals.
use Rattle.std.specs.Prelude.{ℕ}
use Rattle.draws.specs.declared.fault.DrawFault.{DrawFault}
use Rattle.draws.specs.declared.fault.DrawFault.TheVariants.{Sizes, Short, NotOnce}

abbrev pub draw_fault_number : DrawFault → ℕ
draw_fault_number Sizes = 1
draw_fault_number Short = 4
draw_fault_number NotOnce = 6
