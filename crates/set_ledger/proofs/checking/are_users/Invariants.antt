use Rattle.std.proofs.Common.{◌≡◌}
use Rattle.set_events.specs.declared.event.Actor.TheVariants.{User}
use Rattle.set_ledger.specs.Ending.{has_seat, all_below}
use Rattle.set_ledger.proofs.checking.are_users.Given as goal

abbrev pub invariant-loop-number : goal.invariant-loop-number
invariant-loop-number g l = l.all ≡ all_below l.number (λ k. has_seat (λ seat. seat) (User k) l.seats)
