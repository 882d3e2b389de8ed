use Rattle.link_term.proofs.Choices.{sends_then}
use Rattle.link_term.proofs.choosing.serve.Goals as goal

pub returns-clause-sends : goal.returns-clause-sends
returns-clause-sends g c =
    let first = c.in_ok-ask_up_first.ensures.talks in
    sends_then _ _ _ _ _ _ _ _ _ _ first.0 first.1 c.serve_up.ensures.sends
