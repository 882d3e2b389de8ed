-- THE NUMBERS of the faults.
use Rattle.std.specs.Prelude.{ℕ}
use Rattle.set_ledger.specs.declared.held.CreateFault.{CreateFault}
use Rattle.set_ledger.specs.declared.held.CreateFault.TheVariants.{NoMemory, Users}

abbrev pub create_fault_number : CreateFault → ℕ
create_fault_number NoMemory = 1
create_fault_number Users = 2
