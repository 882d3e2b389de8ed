use Rattle.term_model.proofs.Talks.{breaks_first, breaks_later}
use Rattle.term_model.proofs.laws.a_fault_breaks_a_talk_off.Goals as goal

pub returns-clause-first : goal.returns-clause-first
returns-clause-first c = breaks_first

pub returns-clause-later : goal.returns-clause-later
returns-clause-later c = breaks_later
