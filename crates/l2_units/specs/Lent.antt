-- A unit whose body stays where it stands.
use Rattle.std.specs.Prelude.{List, ℕ, []}
use Rattle.l2_units.specs.declared.lent.UnitRef.{UnitRef}
use Rattle.l2_units.specs.declared.lent.UnitRef.TheVariants.{Fisu as LentFisu, Lssu as LentLssu, Msu as LentMsu}
use Rattle.l2_units.specs.declared.unit.Unit.{Unit as SignalUnit}
use Rattle.l2_units.specs.declared.unit.Unit.TheVariants.{Fisu, Lssu, Msu}

-- the unit
abbrev pub unit_in : UnitRef → SignalUnit
unit_in (LentFisu head) = Fisu head
unit_in (LentLssu head status) = Lssu head status
unit_in (LentMsu head body) = Msu head (record { items = body.now })

-- the octets of its body; there may be none
abbrev pub body_in : UnitRef → List ℕ
body_in (LentMsu head body) = body.now
body_in unit = []
