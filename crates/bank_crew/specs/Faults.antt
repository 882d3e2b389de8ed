-- THE FAULTS of a user, by their numbers, and those of a set's threads.
use Rattle.std.specs.Prelude.{ℕ}
use Rattle.bank_crew.specs.declared.fault.CrewFault.{CrewFault}
use Rattle.set_events.specs.declared.fault.SetFault.{SetFault}
use Rattle.bank_crew.specs.declared.fault.UserFault.{UserFault}

abbrev pub fault_number : UserFault → ℕ
fault_number UserFault.NoMemory = 1
fault_number UserFault.Exhausted = 2
fault_number UserFault.NotFound = 3

-- what a fault of the set is to its user
abbrev pub fault_of : SetFault → UserFault
fault_of SetFault.NoMemory = UserFault.NoMemory
fault_of SetFault.Exhausted = UserFault.Exhausted

-- why a thread can't be started: for want of memory, or of a thread
abbrev pub CannotStart : CrewFault → Type 0
CannotStart CrewFault.NoMemory = Unit {0}
CannotStart CrewFault.NoThread = Unit {0}
CannotStart CrewFault.Unclosed = ⊥

-- WHY A THREAD WASN'T STARTED: for want of memory where a stack was refused, and of a thread where one was given
abbrev pub IsUnstarted : Type 0 → Type 0 → CrewFault → Type 0
IsUnstarted refused given CrewFault.NoMemory = refused
IsUnstarted refused given CrewFault.NoThread = given
IsUnstarted refused given CrewFault.Unclosed = ⊥
