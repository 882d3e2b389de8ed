-- THE FAULTS of a bank, by their numbers.
use Rattle.std.specs.Prelude.{◌≡◌, ℕ, List, Result, Err}
use Rattle.l2_units.specs.declared.profile.Profile.TheVariants.{Narrow}
use Rattle.set_events.specs.declared.config.SetConfig.{SetConfig}
use Rattle.bank_crew.specs.declared.end.SetEnd.{SetEnd}
use Rattle.bank_crew.specs.declared.fault.CrewFault.{CrewFault}
use Rattle.bank_crew.specs.declared.fault.CrewFault.TheVariants as crew
use Rattle.bank_core.specs.declared.fault.BankFault.{BankFault}
use Rattle.bank_core.specs.Ends.{outcome}
use Rattle.bank_core.specs.declared.fault.BankFault.TheVariants.{NoMemory, Users, Sets, NoThread, Unclosed, Wide}

abbrev pub fault_number : BankFault → ℕ
fault_number NoMemory = 1
fault_number Users = 2
fault_number Sets = 3
fault_number NoThread = 4
fault_number Unclosed = 5
fault_number Wide = 6

-- terminals have numbers of seven bits, so each set of a bank has them
abbrev pub IsNarrow : SetConfig → Type 0
IsNarrow config = config.profile ≡ Narrow

-- why no bank is made
abbrev pub CannotMake : BankFault → Type 0
CannotMake NoMemory = Unit {0}
CannotMake Users = Unit {0}
CannotMake Sets = Unit {0}
CannotMake NoThread = ⊥
CannotMake Unclosed = ⊥
CannotMake Wide = Unit {0}

-- why a set that was started doesn't come to its end
abbrev pub EndsEarly : BankFault → Type 0
EndsEarly NoMemory = Unit {0}
EndsEarly Users = ⊥
EndsEarly Sets = ⊥
EndsEarly NoThread = Unit {0}
EndsEarly Unclosed = Unit {0}
EndsEarly Wide = ⊥

-- why none is started
abbrev pub CannotStart : BankFault → Type 0
CannotStart NoMemory = Unit {0}
CannotStart Users = ⊥
CannotStart Sets = ⊥
CannotStart NoThread = Unit {0}
CannotStart Unclosed = ⊥
CannotStart Wide = ⊥

-- what the bank tells of a set that didn't
abbrev pub fault_of : CrewFault → BankFault
fault_of crew.NoMemory = NoMemory
fault_of crew.NoThread = NoThread
fault_of crew.Unclosed = Unclosed

-- the first set that came to no end is told
pub record TellsFirst (answers : List (Result SetEnd CrewFault)) (fault : BankFault) : Type 0 where
  pub first : CrewFault
  pub first_is : outcome answers ≡ Err first
  pub told : fault ≡ fault_of first
