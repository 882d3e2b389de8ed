use Rattle.terminal_text.proofs.Reasons.{every_reason_is_so}
use Rattle.terminal_text.proofs.laws.every_reason_is_so.Goals as goal

pub returns : goal.returns
returns c = every_reason_is_so
