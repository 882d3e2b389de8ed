use Rattle.l2_bits.proofs.FlagLemmas.{flag_first}
use Rattle.term_laws.proofs.DamageLemmas.{some_heard}
use Rattle.term_laws.proofs.laws.damage_only_loses.Goals as goal

pub returns : goal.returns
returns c = some_heard flag_first
