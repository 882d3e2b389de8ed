use Rattle.terminal_text.proofs.HearingLemmas.{as_many}
use Rattle.terminal_text.proofs.laws.as_many_octets_go_out.Goals as goal

pub returns : goal.returns
returns c = as_many
