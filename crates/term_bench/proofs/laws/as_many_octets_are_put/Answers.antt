use Rattle.term_bench.proofs.HearingLemmas.{as_many}
use Rattle.term_bench.proofs.laws.as_many_octets_are_put.Goals as goal

pub returns : goal.returns
returns c = as_many
