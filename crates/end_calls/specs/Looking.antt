-- WHAT IS TOLD TO A LINK by its number, and how it stands.
use Rattle.std.specs.Prelude.{◌≡◌, ◌≤◌, ℕ, Bool, true, List, length, Option, Some, None, Result, Ok, Err, slice_get, if◌then◌else◌}
use Rattle.end_calls.specs.Codes.{cause_code, command_of, no_such_link, of_manage, phase_number, word_number}
use Rattle.end_calls.specs.declared.fault.CallFault.{CallFault}
use Rattle.end_calls.specs.declared.links.LookValues.{LookValues}
use Rattle.l2_units.specs.declared.cause.Cause.{Cause}
use Rattle.set_events.specs.declared.answer.Refusal.{Refusal as SetRefusal}
use Rattle.set_model.specs.History.{based}
use Rattle.term_bench.specs.Ends.{AtLink, Commands, is_start, phase_of, word_of}
use Rattle.term_bench.specs.declared.counts.TurnCounts.{TurnCounts}
use Rattle.term_bench.specs.declared.word.LinkWord.{LinkWord}
use Rattle.term_bench.specs.declared.word.Phase.{Phase}
use Rattle.term_managed.specs.Ends.{ManagedState, is_on}
use Rattle.term_managed.specs.Turns.{Activates, Deactivates, NotActivated, NotDeactivated}
use Rattle.term_managed.specs.declared.fault.ManageFault.{ManageFault}
use Rattle.term_managed.specs.declared.turn.Deed.{Deed}
use Rattle.term_model.specs.declared.command.Command.{Command}

-- A COMMAND, by its number: it waits at the link; or nothing is done, since there is no such link or no such command, or it
-- would start a link that was left and isn't settled
pub data IsNotCommanded (link number : ℕ) (fault : CallFault) (old : ManagedState) : Type 0 where
  no_link : fault ≡ no_such_link → length old.bench.links ≤ link → IsNotCommanded link number fault old
  no_command : fault ≡ CallFault.NoSuchCommand → command_of number ≡ None → IsNotCommanded link number fault old
  unsettled : (command : Command) → fault ≡ CallFault.Refused SetRefusal.Unsettled → command_of number ≡ Some command
      → is_start command ≡ true → phase_of link old.bench.set.state ≡ Phase.Left → IsNotCommanded link number fault old

abbrev pub Commanded : ℕ → ℕ → ManagedState → Result (Unit {0}) CallFault → ManagedState → Type 0
Commanded link number old (Ok done) new =
    (command : Command) × (command_of number ≡ Some command) × Commands link command old.bench new.bench × (new.kept ≡ old.kept)
Commanded link number old (Err fault) new = IsNotCommanded link number fault old × (new ≡ old)

-- ACTIVATION: what level 3 asks is carried out; or there is no such link, or level 3 wasn't told so
abbrev pub already_so : CallFault
already_so = CallFault.Refused SetRefusal.Nothing

pub data IsNotTold (NotDone : ManageFault → Type 0) (link : ℕ) (fault : CallFault) (old new : ManagedState) : Type 0 where
  no_link : fault ≡ no_such_link → length old.bench.links ≤ link → new ≡ old → IsNotTold NotDone link fault old new
  by_level3 : (told : ManageFault) → fault ≡ of_manage told → NotDone told → IsNotTold NotDone link fault old new

abbrev pub Activated : ℕ → ManagedState → Result (Unit {0}) CallFault → ManagedState → Type 0
Activated link old (Ok done) new = (deeds : List Deed) × Activates link old deeds new
Activated link old (Err fault) new = IsNotTold (λ told. NotActivated link told old new) link fault old new

abbrev pub Deactivated : ℕ → ManagedState → Result (Unit {0}) CallFault → ManagedState → Type 0
Deactivated link old (Ok done) new = (deeds : List Deed) × Deactivates link old deeds new
Deactivated link old (Err fault) new = IsNotTold (λ told. NotDeactivated link told old new) link fault old new

-- HOW A LINK STANDS
abbrev pub looked : TurnCounts → LinkWord → Phase → Option Cause → Bool → LookValues
looked counts word phase cause on = record {
  turns = counts.turns;
  sent = counts.sent;
  good = counts.good;
  bad = counts.bad;
  sixteen = counts.sixteen;
  word = word_number word;
  phase = phase_number phase;
  cause = cause_code cause;
  activated = if on then 1 else 0;
}

pub record Looks (link : ℕ) (now : ManagedState) (values : LookValues) : Type 0 where
  pub at : AtLink
  pub is_at : slice_get now.bench.links link ≡ Some at
  pub values_are : values ≡ looked at.counts (word_of at.terminal) (phase_of link now.bench.set.state) at.terminal.cause
      (is_on (slice_get now.kept link))

abbrev pub IsLook : ℕ → ManagedState → Result LookValues CallFault → Type 0
IsLook link now (Ok values) = Looks link now values
IsLook link now (Err fault) = (fault ≡ no_such_link) × (length now.bench.links ≤ link)

-- A CHECKPOINT: the set goes on from what it holds, with a new history; or nothing is done, for want of memory
abbrev pub IsCheckpoint : ManagedState → Result (Unit {0}) CallFault → ManagedState → Type 0
IsCheckpoint old (Ok done) new =
    (new.bench.set ≡ based old.bench.set) × (new.bench.links ≡ old.bench.links) × (new.kept ≡ old.kept)
IsCheckpoint old (Err fault) new = (fault ≡ CallFault.NoMemory) × (new ≡ old)
