-- The table of initial alignment control (Q.703 7.3): a row for each state and input.
use Rattle.std.specs.Prelude.{◌+◌, Bool, true, false, if◌then◌else◌, nat_lt, Option, Some, None}
use Rattle.l2_units.specs.declared.status.Status.{Status}
use Rattle.l2_units.specs.declared.timer.TimerOrder.{TimerOrder}
use Rattle.l2_align.specs.declared.align.State.{State}
use Rattle.l2_align.specs.declared.signals.AlignIn.{AlignIn}
use Rattle.l2_align.specs.declared.signals.AlignOut.{AlignOut}
use Rattle.l2_align.specs.declared.signals.Outcome.{Outcome}
use Rattle.l2_align.specs.declared.signals.Monitor.{Monitor}
use Rattle.l2_align.specs.Alignment.{Alignment, initial}

-- what a row does: what is told, and the machine afterwards
pub record Row : Type 0 where
  pub out : AlignOut
  pub next : Alignment

-- nothing sent, no timer touched, the monitor kept, no end
abbrev pub nothing : AlignOut
nothing = record {
  send = None;
  t2 = TimerOrder.Keep;
  t3 = TimerOrder.Keep;
  t4 = TimerOrder.Keep;
  monitor = Monitor.Keep;
  outcome = None;
}

-- one timer stops
abbrev pub stop_t2 : AlignOut
stop_t2 = record nothing { t2 = TimerOrder.Stop }

abbrev pub stop_t3 : AlignOut
stop_t3 = record nothing { t3 = TimerOrder.Stop }

abbrev pub stop_t4 : AlignOut
stop_t4 = record nothing { t4 = TimerOrder.Stop }

-- nothing is told
abbrev pub silent : Alignment → Row
silent a = record { out = nothing; next = a }

-- the same row with a status sent
abbrev pub sending : Status → Row → Row
sending s r = record r { out = record r.out { send = Some s } }

-- from Idle: SIO goes out until something is heard
abbrev pub seeking : Alignment → Row
seeking a = record {
  out = record nothing { send = Some Status.OutOfAlignment; t2 = TimerOrder.Start };
  next = record a { state = State.NotAligned };
}

-- from NotAligned: the far end was heard
abbrev pub aligned : Alignment → Row
aligned a = record {
  out = record stop_t2 {
    send = Some (if a.local then Status.Emergency else Status.Normal);
    t3 = TimerOrder.Start;
  };
  next = record a { state = State.Aligned };
}

-- emergency is asked for while aligned
abbrev pub asking : Alignment → Row
asking a = sending Status.Emergency (silent (record a { local = true; short = true }))

-- and no longer (Q.703 7.4): SIN goes out again
abbrev pub calmed : Bool → Alignment → Row
calmed short a =
    if a.local then sending Status.Normal (silent (record a { local = false; short = short })) else silent a

-- a proving period begins, the first or anew (Q.703 7.4): 2^16 octet times, or 2^12 in emergency
abbrev pub proving : Alignment → Row
proving a = record {
  out = record nothing {
    t4 = TimerOrder.StartFor (if a.short then 4096 else 65536);
    monitor = if a.short then Monitor.Emergency else Monitor.Normal;
  };
  next = record a { state = State.Proving; pending = false };
}

-- from Aligned: the first
abbrev pub first_proving : Alignment → Row
first_proving a = let r = proving (record a { aborts = 0 }) in record r { out = record r.out { t3 = TimerOrder.Stop } }

-- anew as that of emergency, where it isn't so yet
abbrev pub shortened : Alignment → Row
shortened a = if a.short then silent a else proving (record a { short = true })

-- from Proving back to Aligned
abbrev pub fallen_back : Alignment → Row
fallen_back a = record {
  out = record stop_t4 { t3 = TimerOrder.Start; monitor = Monitor.Off };
  next = record a { state = State.Aligned; pending = false };
}

-- each way to Idle: its timer stops, the monitor is off, all values are cleared
abbrev pub idle : AlignOut → Option Outcome → Row
idle stops outcome = record { out = record stops { monitor = Monitor.Off; outcome = outcome }; next = initial }

-- an abort that counts
abbrev pub counted_abort : Alignment → Row
counted_abort a = record {
  out = record nothing { monitor = Monitor.Off };
  next = record a { aborts = a.aborts + 1; pending = true };
}

-- alignment isn't possible at the fifth
abbrev pub aborted : Alignment → Row
aborted a = if nat_lt (a.aborts + 1) 5 then counted_abort a else idle stop_t4 (Some Outcome.NotPossible)

-- The rows, in order, by the state and by the status that is heard; what has none is ignored.

abbrev pub when_idle : AlignIn → Alignment → Row
when_idle AlignIn.Emergency a = silent (record a { local = true })
when_idle AlignIn.Calm a = silent (record a { local = false })
when_idle AlignIn.Start a = seeking a
when_idle _ a = silent a

abbrev pub heard_not_aligned : Status → Alignment → Row
heard_not_aligned Status.OutOfAlignment a = aligned (record a { short = a.local })
heard_not_aligned Status.Normal a = aligned (record a { short = a.local })
heard_not_aligned Status.Emergency a = aligned (record a { short = true })
heard_not_aligned _ a = silent a

abbrev pub when_not_aligned : AlignIn → Alignment → Row
when_not_aligned AlignIn.Emergency a = silent (record a { local = true })
when_not_aligned AlignIn.Calm a = silent (record a { local = false })
when_not_aligned (AlignIn.Heard status) a = heard_not_aligned status a
when_not_aligned AlignIn.T2 a = idle stop_t2 (Some Outcome.NotPossible)
when_not_aligned AlignIn.Stop a = idle stop_t2 None
when_not_aligned _ a = silent a

abbrev pub heard_aligned : Status → Alignment → Row
heard_aligned Status.Normal a = first_proving a
heard_aligned Status.Emergency a = first_proving (record a { short = true })
heard_aligned Status.OutOfService a = idle stop_t3 (Some Outcome.NotPossible)
heard_aligned _ a = silent a

abbrev pub when_aligned : AlignIn → Alignment → Row
when_aligned AlignIn.Emergency a = asking a
when_aligned AlignIn.Calm a = calmed false a
when_aligned (AlignIn.Heard status) a = heard_aligned status a
when_aligned AlignIn.T3 a = idle stop_t3 (Some Outcome.NotPossible)
when_aligned AlignIn.Stop a = idle stop_t3 None
when_aligned _ a = silent a

abbrev pub heard_proving : Status → Alignment → Row
heard_proving Status.Emergency a = shortened a
heard_proving Status.OutOfAlignment a = fallen_back a
heard_proving Status.OutOfService a = idle stop_t4 (Some Outcome.NotPossible)
heard_proving _ a = silent a

abbrev pub when_proving : AlignIn → Alignment → Row
when_proving AlignIn.Emergency a = sending Status.Emergency (shortened (record a { local = true }))
-- the proving period that runs goes on as it is (own)
when_proving AlignIn.Calm a = calmed a.short a
when_proving (AlignIn.Heard status) a = heard_proving status a
when_proving AlignIn.Abort a = if a.pending then silent a else aborted a
when_proving AlignIn.Good a = if a.pending then proving a else silent a
when_proving AlignIn.T4 a = if a.pending then proving a else idle stop_t4 (Some Outcome.Complete)
when_proving AlignIn.Stop a = idle stop_t4 None
when_proving _ a = silent a

abbrev pub table : State → AlignIn → Alignment → Row
table State.Idle = when_idle
table State.NotAligned = when_not_aligned
table State.Aligned = when_aligned
table State.Proving = when_proving

abbrev pub row : Alignment → AlignIn → Row
row a input = table a.state input a
