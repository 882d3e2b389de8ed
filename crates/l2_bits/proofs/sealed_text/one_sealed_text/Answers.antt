use Rattle.l2_bits.proofs.SealedTextLemmas.{sealed_meets_check, sealed_alone, one_content}
use Rattle.l2_bits.proofs.sealed_text.one_sealed_text.Goals as goal

pub returns-clause-meets_check : goal.returns-clause-meets_check
returns-clause-meets_check c = sealed_meets_check

pub returns-clause-is_one : goal.returns-clause-is_one
returns-clause-is_one c = sealed_alone

pub returns-clause-has_one_content : goal.returns-clause-has_one_content
returns-clause-has_one_content c = one_content
