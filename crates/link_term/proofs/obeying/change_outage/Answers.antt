use Rattle.link_term.proofs.Outages.{changed_then, changed_broken}
use Rattle.link_term.proofs.obeying.change_outage.Goals as goal

pub returns-in_err-input_state-clause-talks : goal.returns-in_err-input_state-clause-talks
returns-in_err-input_state-clause-talks g c =
    let first = c.in_err-input_state.ensures.talks in
    changed_broken c.args.input c.args.inside.now _ _ _ _ _ c.from_residual.ensures.1 first.0 first.1

pub returns-clause-talks : goal.returns-clause-talks
returns-clause-talks g c =
    let first = c.in_ok-input_state.ensures.talks in
    changed_then c.args.input c.args.inside.now c.input_state.new.inside _ _ _ _ _ _ c.is_held-was_held.ensures first.0 first.1 c.tell_outage.ensures.talks
