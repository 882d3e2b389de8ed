use Rattle.text_lines.proofs.LineLemmas.{one_text}
use Rattle.terminal_text.proofs.TextThere.{text_there}
use Rattle.terminal_text.specs.One.{one_outcome}
use Rattle.terminal_text.specs.Text.{terminal_rules}
use Rattle.terminal_text.proofs.laws.one_terminal_text.Goals as goal

pub returns-clause-outcome : goal.returns-clause-outcome
returns-clause-outcome c = one_outcome

pub returns-clause-text : goal.returns-clause-text
returns-clause-text c = one_text terminal_rules one_outcome

pub returns-clause-there : goal.returns-clause-there
returns-clause-there c = text_there
