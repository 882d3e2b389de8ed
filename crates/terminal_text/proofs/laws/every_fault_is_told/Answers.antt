use Rattle.terminal_text.proofs.Reasons.{every_fault_is_told}
use Rattle.terminal_text.proofs.laws.every_fault_is_told.Goals as goal

pub returns : goal.returns
returns c = every_fault_is_told
