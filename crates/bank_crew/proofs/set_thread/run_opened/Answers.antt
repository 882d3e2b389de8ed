use Rattle.std.proofs.Common.{◌∙◌, ap, sym, subst, length}
use Rattle.set_events.specs.declared.event.Actor.TheVariants.{User, Terminal}
use Rattle.bank_crew.specs.Keeping.{AreNew}
use Rattle.bank_crew.proofs.Doing.{are_new, many_new}
use Rattle.bank_crew.proofs.Done.{is_done}
use Rattle.bank_crew.proofs.set_thread.run_opened.Goals as goal

-- src/set_thread.rt
pub run_seats-requires-clause-users : goal.run_seats-requires-clause-users
run_seats-requires-clause-users g c _ _ = subst (AreNew User 0) (sym c.requires.users) (are_new User c.args.work.users)

pub run_seats-requires-clause-terminals : goal.run_seats-requires-clause-terminals
run_seats-requires-clause-terminals g c _ _ = subst (AreNew Terminal 0) (sym c.requires.terminals) (are_new Terminal c.args.work.config.links)

pub returns-in-Ok : goal.returns-in-Ok
returns-in-Ok g c =
    is_done g.L.Line _ c.end_set.result _ _ _ _ _ _ (c.end_set.ensures.closed c.args.work.config c.requires.opening) c.end_set.ensures.users
    c.end_set.ensures.terminals c.end_set.ensures.reports c.in-Ok.ensures.users (ap length c.requires.users ∙ many_new User c.args.work.users)
    c.in-Ok.ensures.terminals (ap length c.requires.terminals ∙ many_new Terminal c.args.work.config.links)
