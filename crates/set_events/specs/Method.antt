-- The limits of the cyclic method.
use Rattle.std.specs.Prelude.{ℕ, Bool, true, ◌&&◌, nat_le, Option, None, Some, if◌then◌else◌}
use Rattle.l2_units.specs.declared.profile.Profile.{Profile}
use Rattle.l2_units.specs.declared.profile.Profile.TheVariants.{Narrow, Wide}
use Rattle.l2_units.specs.Profile.{most_unacked}
use Rattle.set_events.specs.declared.config.Method.{Method}
use Rattle.set_events.specs.declared.config.Method.TheVariants.{Basic, Cyclic as CyclicMethod}
use Rattle.set_events.specs.declared.config.ConfigFault.{ConfigFault}
use Rattle.set_events.specs.declared.config.ConfigFault.TheVariants.{Cyclic}

-- the most octets that the bodies of all messages can have that are unacknowledged at once (Q.703 5.2.2)
abbrev pub most_octets : Profile → ℕ
most_octets Narrow = 34671
most_octets Wide = 1113840

-- a limit of the cyclic method between 1 and the greatest that can be met
abbrev pub is_limit : ℕ → ℕ → Bool
is_limit greatest limit = nat_le 1 limit && nat_le limit greatest

-- a forced cycle starts at N1 messages or N2 octets (Q.703 6.4.2), so many as can be unacknowledged
abbrev pub is_method : Profile → Method → Bool
is_method profile Basic = true
is_method profile (CyclicMethod n1 n2) = is_limit (most_unacked profile) n1 && is_limit (most_octets profile) n2

abbrev pub method_fault : Profile → Method → Option ConfigFault
method_fault profile method = if is_method profile method then None else Some Cyclic
