-- THE NUMBERS of subcommands and refusals for programs in other languages. They never change.
use Rattle.std.specs.Prelude.{ℕ, ◌==◌, ◌-◌, nat_lt, Bool, true, false, Option, Some, None, if◌then◌else◌}
use Rattle.mtpbank_words.specs.declared.words.Words.{Words}
use Rattle.mtpbank_words.specs.declared.words.Words.TheVariants.{Units, Script, Decode, Audit, Terminal}
use Rattle.mtpbank_words.specs.declared.words.Told.TheVariants.{Play, Capture, Ladder, HistoryOfA, HistoryOfB}
use Rattle.text_calls.specs.declared.telling.TextRefusal.{TextRefusal}

-- of those that can explain a fault of their input
abbrev pub words_that : ℕ → Bool → Option Words
words_that number explains =
    if number == 0 then Some (Script Play explains) else
    if number == 1 then Some (Script Ladder explains) else
    if number == 2 then Some (Script Capture explains) else
    if number == 3 then Some (Script HistoryOfA explains) else
    if number == 4 then Some (Script HistoryOfB explains) else
    if number == 5 then Some (Audit explains) else
    if number == 6 then Some (Decode false explains) else
    if number == 7 then Some (Decode true explains) else
    if number == 8 then Some (Terminal false explains) else
    if number == 9 then Some (Terminal true explains) else None

-- the number 10 can't; the others do with 16 more
abbrev pub words_of_number : ℕ → Option Words
words_of_number number =
    if nat_lt number 16 then (if number == 10 then Some Units else words_that number false)
    else words_that (number - 16) true

-- why a text wasn't made: the numbers of the same faults of an end's calls
abbrev pub refusal_number : TextRefusal → ℕ
refusal_number TextRefusal.NoMemory = 16
refusal_number TextRefusal.NoSuchSubcommand = 49
refusal_number TextRefusal.NoRoom = 50
