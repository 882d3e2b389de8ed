use Rattle.history_audit.proofs.Said.{alone_all}
use Rattle.history_audit.proofs.Told.{begins}
use Rattle.history_audit.proofs.explaining.audit_explained.Goals as goal

pub print_lines-requires-clause-start : goal.print_lines-requires-clause-start
print_lines-requires-clause-start g c = rw c.new.ensures begins

pub returns-clause-same : goal.returns-clause-same
returns-clause-same g c = alone_all c.print_lines.result _ _ _ c.print_lines.ensures.text
