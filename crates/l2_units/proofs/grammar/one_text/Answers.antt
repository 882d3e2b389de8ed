use Rattle.std.proofs.Common.{refl, arith, ◌≡◌, ◌<◌, ◌≤◌, ◌%◌, length}
use Rattle.l2_units.specs.declared.status.Status.{Status}
use Rattle.l2_units.specs.Numbers.{status_number}
use Rattle.l2_units.specs.declared.unit.Unit.{Unit as SignalUnit}
use Rattle.l2_units.specs.declared.unit.Unit.TheVariants.{Fisu, Lssu, Msu}
use Rattle.l2_units.specs.Profile.{Profile, Narrow, Wide, longest_body}
use Rattle.l2_units.specs.Grammar.{StandsFor, spares, HasBody, IsBodyOf, body_of, text}
use Rattle.l2_units.proofs.Texts.{same_unit}
use Rattle.l2_units.proofs.grammar.one_text.Goals as goal

three_bits : (status : Status) → status_number status % 8 ≡ status_number status
three_bits Status.OutOfAlignment = refl
three_bits Status.Normal = refl
three_bits Status.Emergency = refl
three_bits Status.OutOfService = refl
three_bits Status.ProcessorOutage = refl
three_bits Status.Busy = refl
three_bits Status.Unassigned6 = refl
three_bits Status.Unassigned7 = refl

own_body : (profile : Profile) (unit : SignalUnit) → HasBody profile unit → IsBodyOf unit (body_of unit)
own_body profile (Fisu h) is = refl
own_body profile (Lssu h status) is = (omega arith, omega arith, three_bits status)
own_body profile (Msu h body) is = (refl, is.0)

short : (profile : Profile) (unit : SignalUnit) → HasBody profile unit → length (body_of unit) ≤ longest_body profile
short Narrow (Fisu h) is = omega arith
short Narrow (Lssu h status) is = omega arith
short Wide (Fisu h) is = omega arith
short Wide (Lssu h status) is = omega arith
short profile (Msu h body) is = is.1

some_spare : (profile : Profile) → 0 < spares profile
some_spare Narrow = omega arith
some_spare Wide = omega arith

pub returns : goal.returns
returns c profile unit is_unit =
    let stands : StandsFor profile (text profile unit) unit = record { spare = 0; body = body_of unit; in_range = some_spare profile; head_is = is_unit.0; body_is = own_body profile unit is_unit.1; not_long = short profile unit is_unit.1; octets_are = refl } in
    record { stands = stands; alone = λ other found. same_unit profile (text profile unit) other unit found stands }
