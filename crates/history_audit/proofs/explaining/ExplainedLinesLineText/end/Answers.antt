use Rattle.std.proofs.Common.{ap, ◌∙◌, Err}
use Rattle.history_audit.proofs.Said.{ends_short, ends_well, ends_with}
use Rattle.history_audit.proofs.explaining.ExplainedLinesLineText.end.Goals as goal

pub returns-in-Ok : goal.returns-in-Ok
returns-in-Ok c = rw (← c.self.view_is) (ends_well _ _ _ _ (rw c.in-Ok.is at c.conclude.ensures))

pub returns-in-Err-Input : goal.returns-in-Err-Input
returns-in-Err-Input c =
    rw (← c.self.view_is) (ends_with _ _ _ _ c.in-Err-Input.fault (rw (c.in-Err-Input.is ∙ ap Err c.in-Err-Input.field-0-is) at c.conclude.ensures))

pub returns-in-Err-Memory : goal.returns-in-Err-Memory
returns-in-Err-Memory c =
    rw (← c.self.view_is) (ends_short _ _ _ _ (rw (c.in-Err-Memory.is ∙ ap Err c.in-Err-Memory.field-0-is) at c.conclude.ensures))
