-- THE ERROR CONTROL THAT A LINK KEEPS.
use Rattle.std.specs.Prelude.{◌<◌, length}
use Rattle.l2_window.specs.Window.{WindowState, most_unacked}
use Rattle.l2_window.specs.declared.control.Choice.{Choice}
use Rattle.l2_window.specs.declared.control.Choice.TheVariants.{Again, First, Fill}
use Rattle.set_model.specs.Control.{Control, Basic, Cyclic}
use Rattle.set_changeover.specs.declared.control.ByMethod.{ByMethod}
use Rattle.set_changeover.specs.declared.control.ByMethod.TheVariants.{Basic as BasicPart, Cyclic as CyclicPart}

-- what is kept stands for this control
abbrev pub control_of : ByMethod → Control
control_of (BasicPart state) = Basic state
control_of (CyclicPart state) = Cyclic state

-- what is chosen is there: a chosen place is one of the unacknowledged; a first sending has a message, and a place for
-- it
abbrev pub IsPossible : Choice → WindowState → Type 0
IsPossible (Again place) window = place < length window.unacked
IsPossible First window = (0 < length window.unsent) × (length window.unacked < most_unacked window.profile)
IsPossible Fill window = Unit {0}
