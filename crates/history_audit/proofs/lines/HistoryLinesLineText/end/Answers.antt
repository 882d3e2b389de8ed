use Rattle.history_audit.proofs.Told.{ends}
use Rattle.history_audit.proofs.lines.HistoryLinesLineText.end.Goals as goal

pub returns : goal.returns
returns c = ends c.conclude.result _ _ _ _ c.conclude.ensures
