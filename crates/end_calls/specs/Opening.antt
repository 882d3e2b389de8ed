-- AN END IS OPENED with these values.
use Rattle.std.specs.Prelude.{◌≡◌, ◌==◌, ◌||◌, Option, Some, None, if◌then◌else◌}
use Rattle.end_calls.specs.declared.fault.CallFault.{CallFault}
use Rattle.end_calls.specs.declared.opening.SetValues.{SetValues}
use Rattle.end_calls.specs.declared.opening.TimerValues.{TimerValues}
use Rattle.end_calls.specs.declared.opening.TimeValues.{TimeValues}
use Rattle.l2_units.specs.declared.profile.Profile.TheVariants.{Narrow}
use Rattle.l3_link.specs.declared.times.Times.{Times}
use Rattle.set_events.specs.Config.{IsConfigOf, fault_of}
use Rattle.set_events.specs.declared.config.ConfigFault.{ConfigFault}
use Rattle.set_events.specs.declared.config.Method.{Method}
use Rattle.set_events.specs.declared.config.SetConfig.{SetConfig}
use Rattle.term_managed.specs.Ends.{ManagedState, new_managed}
use Rattle.term_model.specs.declared.timers.Timers.{Timers}

-- N1 0 is the basic method (Q.703 5), else the preventive cyclic one (Q.703 6)
abbrev pub method_of : SetValues → Method
method_of set = if set.n1 == 0 then Method.Basic else Method.Cyclic set.n1 set.n2

-- WHICH VALUES ARE REFUSED, in this order
abbrev pub refused_by : Option ConfigFault → Option CallFault
refused_by None = None
refused_by (Some fault) = Some (CallFault.Config fault)

abbrev pub config_refusal : SetValues → Option CallFault
config_refusal set = refused_by (fault_of Narrow set.links set.opc set.dpc set.sio (method_of set))

abbrev pub timers_refusal : TimerValues → Option CallFault
timers_refusal v =
    if (v.t1 == 0 || v.t2 == 0 || v.t3 == 0) || (v.t5 == 0 || v.t6 == 0 || v.t7 == 0)
    then Some CallFault.Timers else None

abbrev pub times_refusal : TimeValues → Option CallFault
times_refusal v =
    if (v.t1 == 0 || v.t2 == 0 || v.t4 == 0) || (v.t5 == 0 || v.t17 == 0) || (v.k1 == 0 || v.k2 == 0)
    then Some CallFault.Times else None

abbrev pub or_else : Option CallFault → Option CallFault → Option CallFault
or_else None second = second
or_else (Some fault) second = Some fault

abbrev pub first_refusal : SetValues → TimerValues → TimeValues → Option CallFault
first_refusal set timers times =
    or_else (config_refusal set) (or_else (timers_refusal timers) (times_refusal times))

-- WHAT IS MADE OF THEM: a new end, with these lengths
abbrev pub HoldsTimers : TimerValues → Timers → Type 0
HoldsTimers v timers =
    (timers.t1 ≡ v.t1) × (timers.t2 ≡ v.t2) × (timers.t3 ≡ v.t3) × (timers.t5 ≡ v.t5) × (timers.t6 ≡ v.t6) × (timers.t7 ≡ v.t7)

abbrev pub HoldsTimes : TimeValues → Times → Type 0
HoldsTimes v times =
    (times.t1 ≡ v.t1) × (times.t2 ≡ v.t2) × (times.t4 ≡ v.t4) × (times.t5 ≡ v.t5) × (times.t17 ≡ v.t17) × (times.k1 ≡ v.k1)
    × (times.k2 ≡ v.k2)

pub record Opens (set : SetValues) (timers : TimerValues) (times : TimeValues) (end : ManagedState) : Type 0 where
  pub config : SetConfig
  pub lengths : Timers
  pub level3 : Times
  pub config_is : IsConfigOf config Narrow set.set set.links set.opc set.dpc set.sio (method_of set)
  pub lengths_are : HoldsTimers timers lengths
  pub level3_is : HoldsTimes times level3
  pub end_is : end ≡ new_managed config lengths level3
