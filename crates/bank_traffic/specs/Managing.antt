-- HOW GATES MANAGE LINKS, and end a run.
use Rattle.std.specs.Prelude.{◌≡◌, ◌≤◌, ◌+◌, ◌-◌, ◌^◌, min, ℕ, Bool, true, false, if◌then◌else◌}
use Rattle.bank_crew.specs.declared.manager.Instruction.{Instruction}
use Rattle.l2_units.specs.Lent.{body_in}
use Rattle.l2_units.specs.declared.lent.UnitRef.{UnitRef}
use Rattle.set_events.specs.declared.answer.Counts.{Counts}
use Rattle.set_model.specs.Rows.{stream_of}

-- THE MESSAGES THAT AREN'T FINISHED: those that wait on a link, are sent and not acknowledged, are held or parked, or wait for
-- a changeback; told up to 2^64 - 1
abbrev pub open_in : Counts → ℕ
open_in counts = min (counts.waiting + counts.unacked + counts.held + counts.parked + counts.back) (2 ^ 64 - 1)

-- the stream of the message that a unit brings; 0 where it brings none
abbrev pub stream_brought : UnitRef → ℕ
stream_brought unit = stream_of (body_in unit)

-- A LINK IS STARTED AGAIN where it's out of service since T17 (Q.704 16.8): 6,400 octet times, 0.8 s at 64 kbit/s
pub record IsRested (up : Bool) (out_since turn : ℕ) : Type 0 where
  pub out : up ≡ false
  pub long : out_since + 6400 ≤ turn

-- WHAT A TERMINAL IS TOLD: nothing more is to come, else it's stopped, else it rested long enough
abbrev pub instruction_of : Bool → Bool → Bool → Instruction
instruction_of over stops rested =
    if over then Instruction.End else (if stops then Instruction.Stop else (if rested then Instruction.Start else Instruction.Run))

-- A USER IS HELD UP where as many of its messages are on their way as may be (own): 64 of those that it offered, but for
-- those that were heard, and for as many as its set gave up, whoever offered these
pub record IsHeldUp (offered heard given_up : ℕ) : Type 0 where
  pub full : heard + given_up + 64 ≤ offered

-- ALL IS DONE where the link that was to fail came back, if one was, all was offered, and each message is finished
pub record IsAllDone (came_back offered_all : Bool) (unfinished : ℕ) : Type 0 where
  pub back : came_back ≡ true
  pub offered : offered_all ≡ true
  pub none_left : unfinished ≡ 0
