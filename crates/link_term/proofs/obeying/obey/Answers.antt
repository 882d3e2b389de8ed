use Rattle.link_term.proofs.Rows.{commands_taken}
use Rattle.link_term.proofs.obeying.obey.Goals as goal

pub returns-clause-talks : goal.returns-clause-talks
returns-clause-talks g c =
    let took = c.take_commands-commands.ensures in
    commands_taken _ c.args.inside.now _ _ _ _ _ took.commands took.taken c.obey_given.ensures.talks
