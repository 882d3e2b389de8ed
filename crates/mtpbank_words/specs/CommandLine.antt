-- THE COMMAND LINE: the words behind the program's name, as the library that reads them defines it.
use Rattle.std.specs.Str.{bytes_eq}
use Rattle.std.specs.Prelude.{◌≡◌, ◌⊎◌, ℕ, Bool, true, false, List, [], ◌∷◌, codes, drop, map, Option, None, Some, String, string_bytes}
use Rattle.clap.specs.Words.{App, Shape, Row, Rule, Text, first_of, new_rule, with_subcommand, subcommand_of, takes}
use Rattle.clap.specs.Simple.{new_shape}
use Rattle.clap.specs.Values.{kind_of}
use Rattle.clap.specs.declared.error.kind.ErrorKind.{ErrorKind}
use Rattle.mtpbank_words.specs.declared.words.Words.{Words}
use Rattle.mtpbank_words.specs.declared.words.Words.TheVariants.{Units, Script, Decode, Audit, Terminal, Run}
use Rattle.mtpbank_words.specs.declared.words.Told.{Told}
use Rattle.mtpbank_words.specs.declared.words.Told.TheVariants.{Play, Capture, Ladder, HistoryOfA, HistoryOfB}
use Rattle.mtpbank_words.specs.declared.words.WordsFault.{WordsFault}
use Rattle.mtpbank_words.specs.declared.words.WordsFault.TheVariants.{NoMemory, Words as WrongWords, Link, Said}
use Rattle.mtpbank_words.specs.declared.run_words.Unasked.{Unasked}
use Rattle.mtpbank_words.specs.declared.run_words.Unasked.TheVariants.{Value, Link as NoLink}
use Rattle.mtpbank_words.specs.Advice.{advice}
use Rattle.clap.specs.declared.error.kind.ErrorKind.TheVariants.{InvalidSubcommand, InvalidValue, MissingSubcommand, UnknownArgument}
use Rattle.mtpbank_words.specs.RunOptions.{IsRun, LacksLink, flag_rule, run_shape, with_rules}

-- no program's name comes first, there is a version, and a subcommand has to be there
abbrev pub program_itself : Shape
program_itself = record (new_shape (codes "mtpbank")) {
  no_binary_name = true;
  subcommand_required = true;
  has_version = true;
}

abbrev pub without_subcommands : App
without_subcommands = record { top = program_itself; subs = [] }

-- two subcommands, which take no words, six that take a flag, of which one takes an end, too, and two another flag, and
-- one that takes options
abbrev pub explain_rule : Rule
explain_rule = flag_rule (codes "explain")

abbrev pub script_shape : List ℕ → Shape
script_shape name = with_rules (new_shape name) (explain_rule ∷ [])

abbrev pub decode_shape : Shape
decode_shape = with_rules (new_shape (codes "decode")) (flag_rule (codes "wide") ∷ explain_rule ∷ [])

abbrev pub terminal_shape : Shape
terminal_shape = with_rules (new_shape (codes "terminal")) (flag_rule (codes "keep") ∷ explain_rule ∷ [])

abbrev pub units_and_play : App
units_and_play =
    with_subcommand (with_subcommand without_subcommands (new_shape (codes "units")))
    (script_shape (codes "play"))

abbrev pub with_units : App
with_units =
    with_subcommand (with_subcommand units_and_play decode_shape)
    (script_shape (codes "capture"))

abbrev pub without_history : App
without_history =
    with_subcommand (with_subcommand with_units (script_shape (codes "ladder")))
    (script_shape (codes "audit"))

abbrev pub end_rule : Rule
end_rule = record (new_rule (codes "END")) { required = true }

abbrev pub history_shape : Shape
history_shape = with_rules (new_shape (codes "history")) (end_rule ∷ explain_rule ∷ [])

abbrev pub without_run : App
without_run = with_subcommand without_history history_shape

abbrev pub with_terminal : App
with_terminal = with_subcommand without_run terminal_shape

abbrev pub program : App
program = with_subcommand with_terminal run_shape

-- the subcommand that was asked for
abbrev pub told_name : Told → List ℕ
told_name Play = codes "play"
told_name Capture = codes "capture"
told_name Ladder = codes "ladder"
told_name HistoryOfA = codes "history"
told_name HistoryOfB = codes "history"

abbrev pub name_of : Words → List ℕ
name_of Units = codes "units"
name_of (Script told explains) = told_name told
name_of (Decode wide explains) = codes "decode"
name_of (Audit explains) = codes "audit"
name_of (Terminal keeps explains) = codes "terminal"
name_of (Run run) = codes "run"

-- the words of a program's arguments, of which the first is its own name
abbrev pub words_in : {A : Type 0} → List (String A) → List (List ℕ)
words_in args = map string_bytes (drop 1 args)

-- the word that stands behind it, where one does
abbrev pub IsEnd : Told → Option (List ℕ) → Type 0
IsEnd Play end = Unit {0}
IsEnd Capture end = Unit {0}
IsEnd Ladder end = Unit {0}
IsEnd HistoryOfA end = end ≡ Some (codes "a")
IsEnd HistoryOfB end = end ≡ Some (codes "b")

-- a subcommand's name, and the word behind it, ask that this is told of a script
pub record IsTold (told : Told) (name : List ℕ) (end : Option (List ℕ)) : Type 0 where
  pub name_is : name ≡ told_name told
  pub end_is : IsEnd told end

-- a flag stands there, whose value is true then
abbrev pub is_true : Option (List ℕ) → Bool
is_true None = false
is_true (Some word) = bytes_eq word (codes "true")

abbrev pub is_set : List ℕ → List Row → Bool
is_set flag rows = is_true (first_of flag rows)

-- what stands behind a subcommand: a word, and whether its flags do
abbrev pub IsBehind : Words → List ℕ → Option (List ℕ) → Bool → Bool → Bool → Type 0
IsBehind Units name end wide keeps explains = Unit {0}
IsBehind (Script told is_explained) name end wide keeps explains =
    IsTold told name end × (is_explained ≡ explains)
IsBehind (Decode is_wide is_explained) name end wide keeps explains = (is_wide ≡ wide) × (is_explained ≡ explains)
IsBehind (Audit is_explained) name end wide keeps explains = is_explained ≡ explains
IsBehind (Terminal is_kept is_explained) name end wide keeps explains = (is_kept ≡ keeps) × (is_explained ≡ explains)
IsBehind (Run run) name end wide keeps explains = Unit {0}

-- what its options tell
abbrev pub HasOptions : Words → List Row → Type 0
HasOptions (Run run) rows = IsRun run rows
HasOptions asked rows = Unit {0}

-- a name of a subcommand, and the word and flags behind it, ask for this
pub record IsWord (asked : Words) (name : List ℕ) (end : Option (List ℕ)) (wide keeps explains : Bool) : Type 0 where
  pub name_is : name ≡ name_of asked
  pub behind : IsBehind asked name end wide keeps explains

-- what the library finds in words asks for this: a subcommand of this name, what it has for END, its flags and options
abbrev pub IsFound : Words → Option (Text × List Row) → Type 0
IsFound asked None = ⊥
IsFound asked (Some found) =
    IsWord asked found.0 (first_of (codes "END") found.1) (is_set (codes "wide") found.1)
    (is_set (codes "keep") found.1) (is_set (codes "explain") found.1)
    × HasOptions asked found.1

-- a run, but for the link that is to fail, which isn't below the links
abbrev pub IsLinkless : ℕ → ℕ → Option (Text × List Row) → Type 0
IsLinkless fail links None = ⊥
IsLinkless fail links (Some found) = (found.0 ≡ codes "run") × LacksLink fail links found.1

-- it asks for nothing, nor for a run but for its link
pub record AsksForNothing (found : Option (Text × List Row)) : Type 0 where
  pub none : (asked : Words) → IsFound asked found → ⊥
  pub no_link : (fail links : ℕ) → IsLinkless fail links found → ⊥

-- why what the library finds asks for nothing
abbrev pub IsNotFound : Unasked → Option (Text × List Row) → Type 0
IsNotFound (Value said) found = AsksForNothing found
IsNotFound (NoLink fail links) found = IsLinkless fail links found

abbrev pub IsAsked : Words → List (List ℕ) → Type 0
IsAsked asked words = IsFound asked (subcommand_of program words)

-- where the library takes the words, they ask for nothing
abbrev pub IsRefused : List (List ℕ) → Type 0
IsRefused words = takes program words ≡ true → AsksForNothing (subcommand_of program words)

-- wrong words are those, also where advice is given; want of memory says nothing of them; a link that isn't there is told
-- as such
abbrev pub Refuses : WordsFault → List (List ℕ) → Type 0
Refuses NoMemory words = Unit {0}
Refuses (WrongWords error) words = IsRefused words
Refuses (Link fail links) words = IsLinkless fail links (subcommand_of program words)
Refuses (Said said) words = IsRefused words × (advice words ≡ Some said.items)

abbrev pub AreWrong : WordsFault → Type 0
AreWrong NoMemory = ⊥
AreWrong (WrongWords error) = Unit {0}
AreWrong (Link fail links) = ⊥
AreWrong (Said said) = ⊥

-- the library tells the wrong words as this kind of error
abbrev pub IsKind : ErrorKind → WordsFault → Type 0
IsKind kind NoMemory = Unit {0}
IsKind kind (WrongWords error) = kind_of error ≡ kind
IsKind kind (Link fail links) = ⊥
IsKind kind (Said said) = ⊥

-- an error about a word that isn't taken, about a value, or about a command, which is none or isn't there
abbrev pub IsAboutWord : ErrorKind → Type 0
IsAboutWord kind =
    (kind ≡ UnknownArgument) ⊎ (kind ≡ InvalidValue) ⊎ (kind ≡ InvalidSubcommand)
    ⊎ (kind ≡ MissingSubcommand)

-- all that can be said is said: an error about a word is the library's alone only where there is no advice
abbrev pub SaysAll : WordsFault → List (List ℕ) → Type 0
SaysAll NoMemory words = Unit {0}
SaysAll (WrongWords error) words = IsAboutWord (kind_of error) → advice words ≡ None
SaysAll (Link fail links) words = Unit {0}
SaysAll (Said said) words = advice words ≡ Some said.items
