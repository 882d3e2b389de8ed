use Rattle.std.proofs.Common.{[]}
use Rattle.l2_bits.proofs.FlagLemmas.{flag_first}
use Rattle.l2_bits.proofs.CountingLemmas.{aligned_first}
use Rattle.term_laws.proofs.CarryingLemmas.{heard, stays, heard_so_far, anywhere, one_list, again, again_so_far, damage, sealed}
use Rattle.term_laws.proofs.laws.what_is_put_is_heard.Goals as goal

pub returns-clause-heard : goal.returns-clause-heard
returns-clause-heard c = heard

pub returns-clause-from_first : goal.returns-clause-from_first
returns-clause-from_first c = λ line steps carries. heard [] line steps flag_first (aligned_first flag_first) carries

pub returns-clause-stays : goal.returns-clause-stays
returns-clause-stays c = stays

pub returns-clause-so_far : goal.returns-clause-so_far
returns-clause-so_far c = heard_so_far

pub returns-clause-anywhere : goal.returns-clause-anywhere
returns-clause-anywhere c = anywhere

pub returns-clause-one_list : goal.returns-clause-one_list
returns-clause-one_list c = one_list flag_first (aligned_first flag_first)

pub returns-clause-again : goal.returns-clause-again
returns-clause-again c = again

pub returns-clause-again_so_far : goal.returns-clause-again_so_far
returns-clause-again_so_far c = again_so_far

pub returns-clause-damage : goal.returns-clause-damage
returns-clause-damage c = damage flag_first (aligned_first flag_first)

pub returns-clause-sealed : goal.returns-clause-sealed
returns-clause-sealed c = sealed
