use Rattle.l2_bits.proofs.FlagLemmas.{flag_first}
use Rattle.l2_bits.proofs.CountingLemmas.{aligned_first, counting_begins, still_aligned, counts_more, unit_aligns}
use Rattle.l2_bits.proofs.marks.octet_counting.Goals as goal

pub returns-clause-first : goal.returns-clause-first
returns-clause-first c = aligned_first flag_first

pub returns-clause-begins : goal.returns-clause-begins
returns-clause-begins c = counting_begins

pub returns-clause-stays : goal.returns-clause-stays
returns-clause-stays c = still_aligned

pub returns-clause-goes_on : goal.returns-clause-goes_on
returns-clause-goes_on c = counts_more

pub returns-clause-ends : goal.returns-clause-ends
returns-clause-ends c = unit_aligns
