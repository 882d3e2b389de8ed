-- PLAIN STATUSES (Q.703 11.1): SIO, SIN, SIE and SIOS, those of a link that isn't in service.
use Rattle.std.specs.Prelude.{◌≡◌, Bool, true, false}
use Rattle.l2_units.specs.declared.status.Status.{Status}
use Rattle.l2_units.specs.declared.unit.Unit.{Unit as SignalUnit}

abbrev pub is_plain : Status → Bool
is_plain Status.OutOfAlignment = true
is_plain Status.Normal = true
is_plain Status.Emergency = true
is_plain Status.OutOfService = true
is_plain _ = false

abbrev pub IsPlainUnit : SignalUnit → Type 0
IsPlainUnit (SignalUnit.Fisu head) = Unit {0}
IsPlainUnit (SignalUnit.Lssu head status) = is_plain status ≡ true
IsPlainUnit (SignalUnit.Msu head body) = Unit {0}
