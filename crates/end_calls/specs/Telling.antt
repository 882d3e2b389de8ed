-- THE TEXT OF THE HISTORY from a line on: line 0 tells what the set was opened with, and each other one is an entry since
-- the last checkpoint.
use Rattle.std.specs.Prelude.{◌≡◌, ◌<◌, ◌==◌, ℕ, ◌+◌, ◌-◌, List, drop, length, Result, Ok, Err, if◌then◌else◌}
use Rattle.end_calls.specs.Turning.{at_front}
use Rattle.end_calls.specs.declared.fault.CallFault.{CallFault}
use Rattle.end_calls.specs.declared.telling.ToldValues.{ToldValues}
use Rattle.set_model.specs.History.{LinkSet}
use Rattle.term_managed.specs.Ends.{ManagedState}
use Rattle.text_entries.specs.Entries.{entries_text}
use Rattle.text_entries.specs.FirstLine.{history_text}

abbrev pub text_from : ℕ → LinkSet → List ℕ
text_from from set =
    if from == 0 then history_text set.base.state.settings set.history
    else entries_text set.base.state.settings.profile (drop (from - 1) set.history)

abbrev pub told_from : ℕ → LinkSet → ToldValues
told_from from set = record { octets = length (text_from from set); lines = length set.history + 1 - from }

-- THE CALL: it stands at the front of the room; or that is too small, and how much is wanted is told; or memory is wanted
abbrev pub TellsHistory : ℕ → ManagedState → List ℕ → ToldValues → Result (Unit {0}) CallFault → List ℕ → ToldValues → Type 0
TellsHistory from end room was (Ok done) room' told =
    (room' ≡ at_front (text_from from end.bench.set) room) × (told ≡ told_from from end.bench.set)
TellsHistory from end room was (Err CallFault.NoRoom) room' told =
    (length room < length (text_from from end.bench.set)) × (room' ≡ room) × (told ≡ told_from from end.bench.set)
TellsHistory from end room was (Err CallFault.NoMemory) room' told = (room' ≡ room) × (told ≡ was)
TellsHistory from end room was (Err fault) room' told = ⊥
