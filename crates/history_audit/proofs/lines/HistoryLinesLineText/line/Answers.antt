use Rattle.history_audit.proofs.Told.{reads_line}
use Rattle.history_audit.proofs.lines.HistoryLinesLineText.line.Goals as goal

pub returns : goal.returns
returns c = reads_line c.tell.result _ _ _ c.args.text.now _ c.requires c.tell.ensures
