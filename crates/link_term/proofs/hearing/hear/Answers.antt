use Rattle.l2_units.specs.Lent.{unit_in}
use Rattle.link_term.proofs.Outages.{heard_then, heard_broken}
use Rattle.link_term.proofs.hearing.hear.Goals as goal

pub returns-in_err-tell_all-clause-talks : goal.returns-in_err-tell_all-clause-talks
returns-in_err-tell_all-clause-talks g c =
    let first = c.in_err-tell_all.ensures.talks in
    heard_broken (unit_in c.args.unit.now) c.args.inside.now _ _ _ _ _ c.from_residual.ensures.1 first.0 first.1

pub returns-clause-talks : goal.returns-clause-talks
returns-clause-talks g c =
    let first = c.in_ok-tell_all.ensures.talks in
    heard_then (unit_in c.args.unit.now) c.args.inside.now c.tell_all.new.inside _ _ _ _ _ _ c.is_held-was_held.ensures first.0 first.1 c.tell_outage.ensures.talks
