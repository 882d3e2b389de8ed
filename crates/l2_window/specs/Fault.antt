-- The numbers of the refusals.
use Rattle.std.specs.Prelude.{ℕ}
use Rattle.l2_window.specs.declared.fault.WindowFault.{WindowFault}
use Rattle.l2_window.specs.declared.fault.WindowFault.TheVariants.{Empty, Full, Unreasonable}

abbrev pub number_of : WindowFault → ℕ
number_of Empty = 1
number_of Full = 2
number_of Unreasonable = 3
