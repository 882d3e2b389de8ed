use Rattle.link_term.proofs.Talking.{talks_ended}
use Rattle.link_term.proofs.hearing.damaged.Goals as goal

pub returns-clause-talks : goal.returns-clause-talks
returns-clause-talks g c = talks_ended _ _ _ _ _ c.judge.ensures.talks
