use Rattle.history_audit.proofs.Verdicts.{one_text_each}
use Rattle.history_audit.proofs.text.one_audit_text.Goals as goal

pub returns : goal.returns
returns c = one_text_each
