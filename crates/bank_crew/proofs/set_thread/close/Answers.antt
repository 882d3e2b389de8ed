use Rattle.bank_crew.proofs.Ending.{closed_as}
use Rattle.bank_crew.proofs.set_thread.close.Goals as goal

pub returns-in-Ok : goal.returns-in-Ok
returns-in-Ok g c = record {
  closed = λ config its. closed_as c.args.users.items c.args.terminals.items c.in-Ok.closed config g.O.Opening.settings c.in-Ok.ensures.closed c.in-Ok.ensures.opened c.in-Ok.ensures.config its;
  users = (c.in-Ok.ensures.closed.users_faithful, c.in-Ok.ensures.closed.users_full);
  terminals = (c.in-Ok.ensures.closed.terminals_faithful, c.in-Ok.ensures.closed.terminals_full);
  unclosed = tt;
}
