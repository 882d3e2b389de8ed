-- Which configurations are refused, and what one that is made holds.
use Rattle.std.specs.Prelude.{◌≡◌, ℕ, ◌==◌, ◌%◌, ◌&&◌, nat_lt, nat_le, Option, Some, if◌then◌else◌}
use Rattle.l2_units.specs.declared.profile.Profile.{Profile}
use Rattle.set_events.specs.declared.config.SetConfig.{SetConfig}
use Rattle.set_events.specs.declared.config.Method.{Method}
use Rattle.set_events.specs.declared.config.ConfigFault.{ConfigFault}
use Rattle.set_events.specs.declared.config.ConfigFault.TheVariants.{Links, PointCode, Sio}
use Rattle.set_events.specs.Method.{method_fault}

-- a signalling link code has four bits (Q.704 15.2)
abbrev pub most_links : ℕ
most_links = 16

-- a point code has 14 bits (Q.704 2.2)
abbrev pub point_codes : ℕ
point_codes = 16384

-- the first fault of these values, in the order of the refusals
abbrev pub fault_of : Profile → ℕ → ℕ → ℕ → ℕ → Method → Option ConfigFault
fault_of profile links opc dpc sio method =
    if nat_le 1 links && nat_le links most_links
    then (if nat_lt opc point_codes && nat_lt dpc point_codes
    then (if sio % 16 == 0 then method_fault profile method else Some Sio)
    else Some PointCode)
    else Some Links

-- the configuration holds these values
pub record IsConfigOf (config : SetConfig) (profile : Profile) (set links opc dpc sio : ℕ) (method : Method) : Type 0 where
  pub profile_is : config.profile ≡ profile
  pub set_is : config.set ≡ set
  pub links_is : config.links ≡ links
  pub opc_is : config.opc ≡ opc
  pub dpc_is : config.dpc ≡ dpc
  pub sio_is : config.sio ≡ sio
  pub method_is : config.method ≡ method
