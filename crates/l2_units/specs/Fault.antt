-- The numbers of the refusals.
use Rattle.std.specs.Prelude.{ℕ}
use Rattle.l2_units.specs.declared.reading.UnitFault.{UnitFault}
use Rattle.l2_units.specs.declared.reading.UnitFault.TheVariants.{Short, Long, Length}

abbrev pub number_of : UnitFault → ℕ
number_of Short = 1
number_of Long = 2
number_of Length = 3
