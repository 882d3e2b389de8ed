use Rattle.term_late.proofs.Late.{takes_its_time}
use Rattle.term_late.proofs.laws.an_alignment_takes_its_time.Goals as goal

pub returns : goal.returns
returns c = takes_its_time
