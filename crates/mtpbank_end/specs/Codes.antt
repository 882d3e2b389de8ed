-- WHAT A CALL ANSWERS to C: 0 where it was done, else the number of why it wasn't.
use Rattle.std.specs.Prelude.{pos, ℤ, Result, Ok, Err}
use Rattle.end_calls.specs.Codes.{fault_number}
use Rattle.end_calls.specs.declared.fault.CallFault.{CallFault}

abbrev pub code_of : {T : Type 0} → Result T CallFault → ℤ
code_of (Ok done) = pos 0
code_of (Err fault) = pos (fault_number fault)

-- what stands then at the place of what it tells
abbrev pub or_as_it_was : {T : Type 0} → Result T CallFault → T → T
or_as_it_was (Ok told) was = told
or_as_it_was (Err fault) was = was
