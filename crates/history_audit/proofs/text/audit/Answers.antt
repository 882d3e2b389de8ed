use Rattle.history_audit.proofs.Told.{begins}
use Rattle.history_audit.proofs.text.audit.Goals as goal

pub print_lines-requires-clause-start : goal.print_lines-requires-clause-start
print_lines-requires-clause-start g c = rw c.new.ensures begins
