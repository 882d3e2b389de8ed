-- The numbers of statuses and causes.
use Rattle.std.specs.Prelude.{ℕ}
use Rattle.l2_units.specs.declared.cause.Cause.{Cause}
use Rattle.l2_units.specs.declared.cause.ControlFault.{ControlFault}
use Rattle.l2_units.specs.declared.status.Status.{Status}

-- the code of a status indication, three bits (Q.703 11.1.3)
abbrev pub status_number : Status → ℕ
status_number Status.OutOfAlignment = 0
status_number Status.Normal = 1
status_number Status.Emergency = 2
status_number Status.OutOfService = 3
status_number Status.ProcessorOutage = 4
status_number Status.Busy = 5
status_number Status.Unassigned6 = 6
status_number Status.Unassigned7 = 7

-- the number of a failed link's cause (own)
abbrev pub cause_number : Cause → ℕ
cause_number Cause.Suerm = 1
cause_number Cause.Bsn = 2
cause_number Cause.Fib = 3
cause_number Cause.T1 = 4
cause_number Cause.T6 = 5
cause_number Cause.T7 = 6
cause_number Cause.Status = 7
cause_number Cause.NotPossible = 8
cause_number Cause.Stop = 9

-- a fault that the error control finds is one of these causes
abbrev pub cause_of : ControlFault → Cause
cause_of ControlFault.Bsn = Cause.Bsn
cause_of ControlFault.Fib = Cause.Fib

abbrev pub fault_number : ControlFault → ℕ
fault_number fault = cause_number (cause_of fault)
