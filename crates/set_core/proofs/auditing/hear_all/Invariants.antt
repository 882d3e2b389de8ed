use Rattle.std.proofs.Common.{take}
use Rattle.set_core.specs.Hearing.{HasHeard}
use Rattle.set_core.specs.Items.{entered}
use Rattle.set_core.proofs.auditing.hear_all.Given as goal

abbrev pub invariant-loop-entry : goal.invariant-loop-entry
invariant-loop-entry o l = HasHeard l.base (entered (take l.entry-index l.entries)) l.auditor
