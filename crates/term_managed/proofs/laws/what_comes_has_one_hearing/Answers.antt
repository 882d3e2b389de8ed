use Rattle.term_managed.proofs.HearingLemmas.{one_hearing, pieces_there}
use Rattle.term_managed.proofs.laws.what_comes_has_one_hearing.Goals as goal

pub returns-clause-one : goal.returns-clause-one
returns-clause-one c = one_hearing

pub returns-clause-there : goal.returns-clause-there
returns-clause-there c = pieces_there
