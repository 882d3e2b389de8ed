-- FAULTS of a terminal, and those of its set that it hands on.
use Rattle.std.specs.Prelude.{ℕ, ◌==◌, List, if◌then◌else◌, map}
use Rattle.set_events.specs.declared.fault.SetFault.{SetFault}
use Rattle.link_term.specs.declared.fault.TermFault.{TermFault}

-- the fault's number
abbrev pub fault_number : TermFault → ℕ
fault_number TermFault.NoMemory = 1
fault_number TermFault.Failed = 2
fault_number TermFault.Exhausted = 3
fault_number TermFault.Profile = 4

-- what a fault of the set is to its terminal
abbrev pub fault_of : SetFault → TermFault
fault_of SetFault.NoMemory = TermFault.NoMemory
fault_of SetFault.Exhausted = TermFault.Exhausted

-- the set's fault of this number
abbrev pub set_fault : ℕ → SetFault
set_fault number = if number == 1 then SetFault.NoMemory else SetFault.Exhausted

abbrev pub set_faults : List ℕ → List SetFault
set_faults numbers = map set_fault numbers
