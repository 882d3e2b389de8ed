use Rattle.std.proofs.Common.{◌≡◌, ◌-◌, List, Result}
use Rattle.set_events.specs.declared.history.Entry.{Entry}
use Rattle.bank_crew.specs.declared.fault.UserFault.{UserFault}
use Rattle.bank_crew.specs.Jobs.{Takes}
use Rattle.bank_crew.proofs.user.take_often.Given as goal

-- what is left completes it
abbrev pub invariant-loop-time : goal.invariant-loop-time
invariant-loop-time g l = (l.caller.seat.who ≡ l.initial.caller.seat.who)
    × ((ended : Result (Unit {0}) UserFault) (after : List Entry)
    → Takes l.initial.caller.seat.who (l.times - l._time) ended l.caller.all after
    → Takes l.initial.caller.seat.who l.times ended l.initial.caller.all after)
