-- WHAT A SET'S THREAD PROMISES: that its task is done.
use Rattle.std.specs.Prelude.{map, Result, IfOk}
use Rattle.line_ring.specs.declared.line.Line as line_end
use Rattle.bank_crew.specs.declared.end.SetEnd.{SetEnd}
use Rattle.bank_crew.specs.declared.fault.CrewFault.{CrewFault}
use Rattle.bank_crew.specs.Ends.{IsDoneOver, LinedTask, lined_task}
use Rattle.bank_crew.specs.Jobs.{duty_of}
use Rattle.bank_core.specs.declared.running.EndOf.{EndOf}

abbrev pub promised : {L : Type 0} → EndOf L → LinedTask L
promised end = lined_task end.config end.users end.lines.value.items (map duty_of end.jobs.value.items) end.plan

abbrev pub Keeps : {L : Type 0} → line_end.Ghosts L → EndOf L → Result SetEnd CrewFault → Type 0
Keeps l promise result = IfOk result (IsDoneOver l (promised promise))
