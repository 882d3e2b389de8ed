use Rattle.std.proofs.Common.{◌≡◌, ◌++◌, List, length}
use Rattle.set_core.specs.Hearing.{HasHeard}
use Rattle.set_core.specs.Items.{entered}
use Rattle.set_events.specs.declared.history.Entry.{Entry}
use Rattle.set_core.proofs.auditing.hear_left.Given as goal

abbrev pub invariant-loop-told : goal.invariant-loop-told
invariant-loop-told o l = (before : List Entry) × (l.fn.entries ≡ before ++ l.left) × HasHeard l.base (entered before) l.auditor

abbrev pub decreases-loop-told : goal.decreases-loop-told
decreases-loop-told o l = length l.left
