use Rattle.term_core.proofs.Running.{no_talk}
use Rattle.term_core.proofs.clocks.no_end_no_talk.Goals as goal

pub returns : goal.returns
returns c = no_talk
