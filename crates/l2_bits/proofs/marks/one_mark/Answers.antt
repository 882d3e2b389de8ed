use Rattle.l2_bits.proofs.MarkLemmas.{mark_alone, marks_alone, marks_more, unit_gives}
use Rattle.l2_bits.proofs.TwoMarkLemmas.{two_marks}
use Rattle.l2_bits.proofs.marks.one_mark.Goals as goal

pub returns-clause-one_mark : goal.returns-clause-one_mark
returns-clause-one_mark c = mark_alone

pub returns-clause-one_list : goal.returns-clause-one_list
returns-clause-one_list c = marks_alone

pub returns-clause-two_marks : goal.returns-clause-two_marks
returns-clause-two_marks c = two_marks

pub returns-clause-one_more : goal.returns-clause-one_more
returns-clause-one_more c = marks_more

pub returns-clause-one_good : goal.returns-clause-one_good
returns-clause-one_good c = λ past raw octets ended aligned good. unit_gives past raw octets ended good aligned
