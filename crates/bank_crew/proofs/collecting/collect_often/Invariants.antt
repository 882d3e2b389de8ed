use Rattle.std.proofs.Common.{◌≡◌, ◌-◌, [], List, Result}
use Rattle.set_events.specs.declared.history.Entry.{Entry}
use Rattle.bank_crew.specs.declared.fault.UserFault.{UserFault}
use Rattle.bank_crew.specs.Jobs.{Takes, kept_by, taken_in}
use Rattle.bank_crew.proofs.collecting.collect_often.Given as goal

-- what is left completes it
abbrev pub invariant-loop-time : goal.invariant-loop-time
invariant-loop-time g l = (l.caller.seat.who ≡ l.initial.caller.seat.who) × (kept_by l.report ≡ taken_in l.caller.all)
    × ((ended : Result (Unit {0}) UserFault) (after : List Entry)
    → Takes l.initial.caller.seat.who (l.times - l._time) ended l.caller.all after
    → Takes l.initial.caller.seat.who l.times ended [] after)
