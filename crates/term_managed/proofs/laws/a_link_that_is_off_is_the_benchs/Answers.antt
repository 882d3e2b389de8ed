use Rattle.term_managed.proofs.HearingLemmas.{off_alone}
use Rattle.term_managed.proofs.laws.a_link_that_is_off_is_the_benchs.Goals as goal

pub returns : goal.returns
returns c = off_alone
