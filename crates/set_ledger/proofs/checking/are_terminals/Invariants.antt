use Rattle.std.proofs.Common.{◌≡◌}
use Rattle.set_events.specs.declared.event.Actor.TheVariants.{Terminal}
use Rattle.set_ledger.specs.Ending.{has_seat, all_below}
use Rattle.set_ledger.proofs.checking.are_terminals.Given as goal

abbrev pub invariant-loop-link : goal.invariant-loop-link
invariant-loop-link g l = l.all ≡ all_below l.link (λ k. has_seat (λ seat. seat) (Terminal k) l.seats)
