use Rattle.term_bench.proofs.OneLemmas.{one_hearing}
use Rattle.term_bench.proofs.TurnsThere.{pieces_there}
use Rattle.term_bench.proofs.laws.bits_have_one_hearing.Goals as goal

pub returns-clause-one : goal.returns-clause-one
returns-clause-one c = one_hearing

pub returns-clause-there : goal.returns-clause-there
returns-clause-there c = pieces_there
