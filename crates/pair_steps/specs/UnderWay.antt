-- A UNIT UNDER WAY: its header, which kind it is, and the octets of a message.
use Rattle.std.specs.Prelude.{ℕ, List}
use Rattle.l2_units.specs.declared.unit.Header.{Header}
use Rattle.l2_units.specs.declared.unit.Unit.{Unit as SignalUnit}
use Rattle.pair_steps.specs.declared.under_way.Kind.{Kind}
use Rattle.pair_steps.specs.declared.under_way.Kind.TheVariants.{Fisu, Lssu, Msu}

abbrev pub unit_with : Header → Kind → List ℕ → SignalUnit
unit_with head Fisu octets = SignalUnit.Fisu head
unit_with head (Lssu status) octets = SignalUnit.Lssu head status
unit_with head Msu octets = SignalUnit.Msu head (record { items = octets })
