use Rattle.std.proofs.Common.{◌≡◌, List, Result, drop, map}
use Rattle.set_events.specs.declared.history.Entry.{Entry}
use Rattle.bank_crew.specs.declared.fault.UserFault.{UserFault}
use Rattle.bank_crew.specs.Jobs.{Offers}
use Rattle.bank_crew.proofs.user.offer_all.Given as goal

-- what is left completes it
abbrev pub invariant-loop-body : goal.invariant-loop-body
invariant-loop-body g l = (l.caller.seat.who ≡ l.initial.caller.seat.who)
    × ((ended : Result (Unit {0}) UserFault) (after : List Entry)
    → Offers l.initial.caller.seat.who (map (λ body. body.items) (drop l.body-index l.bodies)) ended l.caller.all after
    → Offers l.initial.caller.seat.who (map (λ body. body.items) l.bodies) ended l.initial.caller.all after)
