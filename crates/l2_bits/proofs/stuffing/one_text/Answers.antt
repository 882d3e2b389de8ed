use Rattle.l2_bits.proofs.StuffingLemmas.{has_text, one_text, one_content, no_flag, text_length}
use Rattle.l2_bits.proofs.stuffing.one_text.Goals as goal

pub returns-clause-has_text : goal.returns-clause-has_text
returns-clause-has_text c = has_text

pub returns-clause-one_text : goal.returns-clause-one_text
returns-clause-one_text c = one_text

pub returns-clause-one_content : goal.returns-clause-one_content
returns-clause-one_content c = one_content

pub returns-clause-no_flag : goal.returns-clause-no_flag
returns-clause-no_flag c = no_flag

pub returns-clause-bound : goal.returns-clause-bound
returns-clause-bound c = text_length
