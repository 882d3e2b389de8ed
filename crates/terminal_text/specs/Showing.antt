-- WHAT THE TURNS OF A LINE SHOW, in the words of `terminal`: the messages that were heard, how the link stands where that
-- changes, what level 3 asked behind them, and the units that were appended.
use Rattle.std.specs.Prelude.{ℕ, suc, zero, Bool, true, false, ◌==◌, ◌&&◌, ◌+◌, List, [], ◌∷◌, ◌++◌, length, Option, Some, None, codes, decimal, if◌then◌else◌}
use Rattle.std.specs.Str.{bytes_eq}
use Rattle.l3_link.specs.declared.signals.Ask.{Ask}
use Rattle.set_events.specs.Numbers.{refusal_number}
use Rattle.set_events.specs.declared.answer.Refusal.{Refusal}
use Rattle.term_managed.specs.Turns.{HeardTurn, TurnAndDeeds}
use Rattle.term_managed.specs.declared.turn.Deed.{Deed}
use Rattle.term_bench.specs.declared.turn.Turn.{Turn}
use Rattle.term_bench.specs.declared.word.LinkWord.{LinkWord}
use Rattle.l2_units.specs.Numbers.{cause_number}
use Rattle.l2_units.specs.declared.cause.Cause.{Cause}
use Rattle.l2_units.specs.declared.unit.Unit.{Unit as SignalUnit}
use Rattle.text_units.specs.UnitsText.{unit_words}
use Rattle.terminal_text.specs.Stopping.{by_words}
use Rattle.terminal_text.specs.declared.stopping.Stopper.{Stopper}

-- THE WORDS for how a link stands
abbrev pub word_name : LinkWord → List ℕ
word_name LinkWord.Out = codes "out"
word_name LinkWord.Unaligned = codes "unaligned"
word_name LinkWord.Aligned = codes "aligned"
word_name LinkWord.Proving = codes "proving"
word_name LinkWord.Ready = codes "ready"
word_name LinkWord.Waiting = codes "waiting"
word_name LinkWord.Up = codes "up"
word_name LinkWord.Paused = codes "paused"
word_name LinkWord.Outage = codes "outage"

-- the same list so often
abbrev pub over : {A : Type 0} → ℕ → List A → List A
over zero xs = []
over (suc n) xs = over n xs ++ xs

-- THE LINES OF A TURN, ended by LF

abbrev pub message_line : ℕ → ℕ → List ℕ
message_line link turn = codes "message " ++ (decimal link ++ (codes " turn=" ++ (decimal turn ++ codes "\n")))

-- a link that is out of service says why, and one that was stopped who did that, unless its driver did
abbrev pub stop_words : Cause → Stopper → List ℕ
stop_words Cause.Stop stopper = by_words stopper
stop_words _ stopper = []

abbrev pub cause_words : LinkWord → Option Cause → Stopper → List ℕ
cause_words LinkWord.Out (Some cause) stopper = codes " cause=" ++ (decimal (cause_number cause) ++ stop_words cause stopper)
cause_words _ _ stopper = []

abbrev pub link_words : ℕ → Turn → List ℕ
link_words link turn =
    codes "link " ++ (decimal link ++ (codes " " ++ (word_name turn.after ++ (codes " turn=" ++ decimal turn.number))))

abbrev pub link_line : ℕ → Stopper → Turn → List ℕ
link_line link stopper turn = link_words link turn ++ (cause_words turn.after turn.cause stopper ++ codes "\n")

-- the words, counted: two are the same where their numbers are
abbrev pub word_number : LinkWord → ℕ
word_number LinkWord.Out = 0
word_number LinkWord.Unaligned = 1
word_number LinkWord.Aligned = 2
word_number LinkWord.Proving = 3
word_number LinkWord.Ready = 4
word_number LinkWord.Waiting = 5
word_number LinkWord.Up = 6
word_number LinkWord.Paused = 7
word_number LinkWord.Outage = 8

-- the link stands as before
abbrev pub stays : Turn → Bool
stays turn = word_number turn.before == word_number turn.after

-- WHAT LEVEL 3 ASKED: a command, which is obeyed in the next turn, or an event, which the set answers at once
abbrev pub what_name : Ask → List ℕ
what_name (Ask.Rise emergency) = codes "start"
what_name Ask.Emergency = codes "emergency"
what_name Ask.Stop = codes "stop"
what_name Ask.Test = codes "test"
what_name Ask.Timed = codes "timed"
what_name Ask.NoAnswer = codes "noanswer"
what_name Ask.Restore = codes "restore"
what_name Ask.Redeclare = codes "redeclare"
what_name Ask.BackTimeout = codes "backtimeout"

abbrev pub is_command : Ask → Bool
is_command (Ask.Rise emergency) = true
is_command Ask.Emergency = true
is_command Ask.Stop = true
is_command _ = false

-- that a command was done isn't told
abbrev pub answer_words : Ask → Option Refusal → List ℕ
answer_words ask None = if is_command ask then [] else codes " done"
answer_words ask (Some why) = codes " refused " ++ decimal (refusal_number why)

abbrev pub level3_line : ℕ → ℕ → List ℕ → List ℕ → List ℕ
level3_line link turn what answer =
    (codes "level3 " ++ (decimal link ++ codes " "))
    ++ (what ++ (answer ++ (codes " turn=" ++ (decimal turn ++ codes "\n"))))

-- an emergency start is two commands
abbrev pub in_emergency : Ask → Bool
in_emergency (Ask.Rise emergency) = emergency
in_emergency _ = false

abbrev pub deed_lines : ℕ → ℕ → Deed → List ℕ
deed_lines link turn deed =
    (if in_emergency deed.ask then level3_line link turn (codes "emergency") (answer_words deed.ask deed.refused) else [])
    ++ level3_line link turn (what_name deed.ask) (answer_words deed.ask deed.refused)

abbrev pub deeds_lines : ℕ → ℕ → List Deed → List ℕ
deeds_lines link turn [] = []
deeds_lines link turn (deed ∷ deeds) = deed_lines link turn deed ++ deeds_lines link turn deeds

-- messages come first, then how the link stands, then what level 3 asked
abbrev pub own_lines : ℕ → Stopper → Turn → List ℕ
own_lines link stopper turn =
    over turn.messages (message_line link turn.number) ++ (if stays turn then [] else link_line link stopper turn)

abbrev pub turn_lines : ℕ → Stopper → TurnAndDeeds → List ℕ
turn_lines link stopper heard = own_lines link stopper heard.turn ++ deeds_lines link heard.turn.number heard.deeds

abbrev pub is_quiet : Turn → Bool
is_quiet turn = (turn.messages == 0) && stays turn

abbrev pub is_silent : TurnAndDeeds → Bool
is_silent heard = is_quiet heard.turn && (length heard.deeds == 0)

-- WHAT IS SHOWN, one behind another: what a turn did, with the unit that it appended, if any, and who stopped the link, if it
-- was stopped; and the lines of a checkpoint
pub data Shown : Type 0 where
  turned : Stopper → HeardTurn → Shown
  gone : List ℕ → Shown

-- UNITS THAT WERE APPENDED. A row of units that read the same is one line, with how many they are: it ends where another
-- unit or another line comes.

-- how many that read so stand in front
abbrev pub leading_at : List ℕ → Option SignalUnit → ℕ → ℕ
leading_at words None later = later
leading_at words (Some unit) later = if bytes_eq words (unit_words unit) then 1 + later else 0

abbrev pub leading : List ℕ → List Shown → ℕ
leading words [] = 0
leading words (turned stopper heard ∷ more) =
    if is_silent heard.turn then leading_at words heard.unit (leading words more) else 0
leading words (gone lines ∷ more) = 0

abbrev pub times_words : ℕ → List ℕ
times_words times = if times == 1 then [] else codes " x" ++ decimal times

abbrev pub row_line : ℕ → List ℕ → ℕ → List ℕ
row_line link words times =
    (codes "sent " ++ (decimal link ++ codes " ")) ++ (words ++ (times_words times ++ codes "\n"))

-- a unit stands in the row of the one before it, where that reads the same
abbrev pub stands_in : Option (List ℕ) → List ℕ → Bool
stands_in None words = false
stands_in (Some before) words = bytes_eq before words

abbrev pub unit_line : ℕ → Option (List ℕ) → Option SignalUnit → List Shown → List ℕ
unit_line link before None more = []
unit_line link before (Some unit) more =
    if stands_in before (unit_words unit) then [] else row_line link (unit_words unit) (1 + leading (unit_words unit) more)

abbrev pub words_or : Option SignalUnit → Option (List ℕ) → Option (List ℕ)
words_or None before = before
words_or (Some unit) before = Some (unit_words unit)

-- the row that goes on behind the lines of a turn
abbrev pub row_behind : Option (List ℕ) → TurnAndDeeds → Option (List ℕ)
row_behind before turn = if is_silent turn then before else None

-- what these show, behind a row of units that read so, if there is one
abbrev pub shown_behind : ℕ → Option (List ℕ) → List Shown → List ℕ
shown_behind link before [] = []
shown_behind link before (gone lines ∷ more) = lines ++ shown_behind link None more
shown_behind link before (turned stopper heard ∷ more) =
    turn_lines link stopper heard.turn ++ (unit_line link (row_behind before heard.turn) heard.unit more
    ++ shown_behind link (words_or heard.unit (row_behind before heard.turn)) more)

-- WHAT A LINE'S TURNS SHOW
abbrev pub shown : ℕ → List Shown → List ℕ
shown link items = shown_behind link None items

-- the same without the units
abbrev pub without_unit : Shown → Shown
without_unit (turned stopper heard) = turned stopper (record { turn = heard.turn; unit = None })
without_unit (gone lines) = gone lines

-- the turns among them
abbrev pub turns_among : List Shown → List HeardTurn
turns_among [] = []
turns_among (turned stopper heard ∷ more) = heard ∷ turns_among more
turns_among (gone lines ∷ more) = turns_among more
