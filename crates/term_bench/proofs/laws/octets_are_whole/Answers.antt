use Rattle.term_bench.proofs.HearingLemmas.{whole_alone}
use Rattle.term_bench.proofs.laws.octets_are_whole.Goals as goal

pub returns : goal.returns
returns c = whole_alone
