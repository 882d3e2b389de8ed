use Rattle.link_term.proofs.Talking.{talks_then, talks_broken}
use Rattle.link_term.proofs.hearing.tell_all.Goals as goal

pub returns-in_err-tell_machines-clause-talks : goal.returns-in_err-tell_machines-clause-talks
returns-in_err-tell_machines-clause-talks g c =
    let first = c.in_ok-input_align.ensures.talks in
    let second = c.in_err-tell_machines.ensures.talks in
    talks_then _ _ _ _ _ _ _ _ first.0 first.1
    (talks_broken _ _ _ _ _ _ _ c.from_residual-in_err-tell_machines.ensures.1 second.0 second.1)

pub returns-clause-talks : goal.returns-clause-talks
returns-clause-talks g c =
    let first = c.in_ok-input_align.ensures.talks in
    let second = c.in_ok-tell_machines.ensures.talks in
    talks_then _ _ _ _ _ _ _ _ first.0 first.1
    (talks_then _ _ _ _ _ _ _ _ second.0 second.1 c.tell_set.ensures.talks)
