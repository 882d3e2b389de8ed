use Rattle.l2_pcr.proofs.Kept as kept
use Rattle.l2_pcr.proofs.law.one_link.Goals as goal

pub returns : goal.returns
returns c = kept.one_link
