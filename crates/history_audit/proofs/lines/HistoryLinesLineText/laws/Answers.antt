use Rattle.history_audit.specs.Auditing.{IsAuditOfLines}
use Rattle.history_audit.proofs.Told.{begun_by, lines_have_one, refuses_long}
use Rattle.history_audit.proofs.lines.HistoryLinesLineText.laws.Goals as goal

pub returns-clause-one_text : goal.returns-clause-one_text
returns-clause-one_text c = lines_have_one

pub returns-clause-begun : goal.returns-clause-begun
returns-clause-begun c = begun_by IsAuditOfLines

pub returns-clause-refuses : goal.returns-clause-refuses
returns-clause-refuses c = refuses_long
