use Rattle.link_term.proofs.Talking.{talks_then}
use Rattle.link_term.proofs.hearing.readable.Goals as goal

pub returns-clause-talks : goal.returns-clause-talks
returns-clause-talks g c =
    let first = c.in_ok-judge.ensures.talks in
    talks_then _ _ _ _ _ _ _ _ first.0 first.1 c.hear.ensures.talks
