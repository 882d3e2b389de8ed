-- WHAT A TERMINAL HOLDS between two turns. Read this file first.
use Rattle.std.specs.Prelude.{ℕ, Bool, true, false, List, Option, Some, None}
use Rattle.l2_units.specs.declared.cause.Cause.{Cause}
use Rattle.l2_units.specs.declared.status.Status.{Status}
use Rattle.l2_bits.specs.Flags.{flag}
use Rattle.l2_units.specs.declared.unit.Header.{Header}
use Rattle.l2_units.specs.Grammar.{header_in}
use Rattle.l2_monitors.specs.Suerm.{Kept}
use Rattle.l2_align.specs.Alignment.{Alignment, initial}
use Rattle.l2_state.specs.declared.link_state.State.{State}
use Rattle.l2_flow.specs.Values.{Values, cleared}
use Rattle.term_model.specs.declared.command.Command.{Command}
use Rattle.term_model.specs.declared.command.Commands.{Commands}
use Rattle.term_model.specs.declared.timers.Timers.{Timers}
use Rattle.term_model.specs.declared.timers.Clocks.{Clocks}

pub record Terminal : Type 0 where
  -- the number of its link at the set
  pub link : ℕ
  -- how long each timer runs (Q.703 12.3)
  pub lengths : Timers
  -- initial alignment control (Q.703 7)
  pub align : Alignment
  -- link state control (Q.703 12)
  pub state : State
  -- this end has a processor outage (Q.703 8.1)
  pub outage : Bool
  -- flow control (Q.703 9)
  pub flow : Values
  -- the alignment error rate monitor of the proving that runs: the errors that trip it yet (Q.703 10.3)
  pub aerm : Option ℕ
  -- the signal unit error rate monitor since alignment was complete (Q.703 10.2)
  pub suerm : Option Kept
  -- the timers that run (Q.703 12.3)
  pub clocks : Clocks
  -- the status that alignment sends (Q.703 7.2)
  pub status : Status
  -- what was commanded since the last turn
  pub commands : Commands
  -- what is left to send, in the order of the line
  pub bits : List Bool
  -- the header of the last unit appended to them, of any kind, in any life of the link
  pub last : Option Header
  -- SIB is to be sent (Q.703 9.3)
  pub b_due : Bool
  -- the set has answered Done to an Up, and the link didn't fail since
  pub up : Bool
  -- Blind was commanded since that Up
  pub blind : Bool
  -- the FSN of the last new message sent since that Up; 127 at Up (Q.703 5.2)
  pub top : ℕ
  -- a message that was sent since that Up isn't acknowledged
  pub unacked : Bool
  -- why the link failed last
  pub cause : Option Cause

-- no timer runs
abbrev pub no_clocks : Clocks
no_clocks = record { t1 = None; t2 = None; t3 = None; t4 = None; t5 = None; t6 = None; t7 = None }

-- nothing was commanded
abbrev pub no_commands : Commands
no_commands = record {
  emergency = false;
  calm = false;
  start = false;
  busy = false;
  ease = false;
  blind = false;
  outage = false;
  recover = false;
  stop = false;
}

-- one more command waits for the next turn; it's no matter that it waited before
abbrev pub and_also : Command → Commands → Commands
and_also Command.Emergency commands = record commands { emergency = true }
and_also Command.Calm commands = record commands { calm = true }
and_also Command.Start commands = record commands { start = true }
and_also Command.Busy commands = record commands { busy = true }
and_also Command.Ease commands = record commands { ease = true }
and_also Command.Blind commands = record commands { blind = true }
and_also Command.Outage commands = record commands { outage = true }
and_also Command.Recover commands = record commands { recover = true }
and_also Command.Stop commands = record commands { stop = true }

abbrev pub told : Command → Terminal → Terminal
told command t = record t { commands = and_also command t.commands }

-- A new terminal: its link is out of service, and one flag is left to send.
abbrev pub opened : ℕ → Timers → Terminal
opened link lengths = record {
  link = link;
  lengths = lengths;
  align = initial;
  state = State.OutOfService;
  outage = false;
  flow = cleared;
  aerm = None;
  suerm = None;
  clocks = no_clocks;
  status = Status.OutOfAlignment;
  commands = no_commands;
  bits = flag;
  last = None;
  b_due = false;
  up = false;
  blind = false;
  top = 127;
  unacked = false;
  cause = None;
}

-- BSN 127, BIB 1, FSN 127, FIB 1: no message was sent or accepted yet
abbrev pub start_head : Header
start_head = header_in 255 255

-- the header that LSSUs have, and FISUs that the set isn't asked for: it says nothing new (own)
abbrev pub head_or_start : Option Header → Header
head_or_start None = start_head
head_or_start (Some head) = head

abbrev pub last_head : Terminal → Header
last_head t = head_or_start t.last
