-- The numbers of refusals and faults.
use Rattle.std.specs.Prelude.{ℕ}
use Rattle.set_events.specs.declared.answer.Refusal.{Refusal as SetRefusal}
use Rattle.set_events.specs.declared.answer.Refusal.TheVariants.{TooShort, TooLong, Reserved, StreamFull, NotUp, NotDown, Unsettled, UnknownNumber, Nothing, NoSuchLink, Finished}
use Rattle.set_events.specs.declared.answer.DiscardCause.{DiscardCause}
use Rattle.set_events.specs.declared.answer.DiscardCause.TheVariants.{Emergency, Unreasonable, NoAnswer}
use Rattle.set_events.specs.declared.config.ConfigFault.{ConfigFault}
use Rattle.set_events.specs.declared.config.ConfigFault.TheVariants.{Links, PointCode, Sio, Cyclic}
use Rattle.set_events.specs.declared.fault.SetFault.{SetFault}
use Rattle.set_events.specs.declared.fault.SetFault.TheVariants.{NoMemory, Exhausted}
-- the causes of a failed link that a heard unit can show
pub use Rattle.l2_units.specs.declared.cause.ControlFault.{ControlFault}
pub use Rattle.l2_units.specs.Numbers.{fault_number}

abbrev pub refusal_number : SetRefusal → ℕ
refusal_number TooShort = 1
refusal_number TooLong = 2
refusal_number Reserved = 3
refusal_number StreamFull = 4
refusal_number NotUp = 5
refusal_number NotDown = 6
refusal_number Unsettled = 7
refusal_number UnknownNumber = 8
refusal_number Nothing = 9
refusal_number NoSuchLink = 10
refusal_number Finished = 11

-- why messages were given up
abbrev pub cause_number : DiscardCause → ℕ
cause_number Emergency = 1
cause_number Unreasonable = 2
cause_number NoAnswer = 3

abbrev pub config_fault_number : ConfigFault → ℕ
config_fault_number Links = 1
config_fault_number PointCode = 2
config_fault_number Sio = 3
config_fault_number Cyclic = 4

abbrev pub set_fault_number : SetFault → ℕ
set_fault_number NoMemory = 1
set_fault_number Exhausted = 2
