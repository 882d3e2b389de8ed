-- WHAT IS SAID of words that the program doesn't take, where more can be said than the library does.
use Rattle.std.specs.Prelude.{ℕ, Bool, true, false, ◌==◌, ◌&&◌, ◌+◌, decimal, not, nat_lt, nat_le, List, [], ◌∷◌, ◌++◌, map, take, drop, position, Option, None, Some, codes, if◌then◌else◌}
use Rattle.std.specs.Option.{option_or}
use Rattle.std.specs.Str.{bytes_eq}
use Rattle.text_base.specs.Figures.{number_of}
use Rattle.mtpbank_words.specs.declared.advice.Input.{Input}
use Rattle.mtpbank_words.specs.declared.advice.Input.TheVariants.{Units, Play, Decode, Capture, Ladder, Audit, Terminal, History}
use Rattle.mtpbank_words.specs.declared.advice.RunOption.{RunOption}
use Rattle.mtpbank_words.specs.declared.advice.RunOption.TheVariants.{Sets, Links, Users, Messages, Fail, Method, Turns, Checkpoint, Noise, Seed}

-- a word is shown on one line, with a dot for each control character
abbrev pub plain : ℕ → ℕ
plain c = if nat_lt c 32 then 46 else (if c == 127 then 46 else c)

-- THE SUBCOMMANDS that read standard input.

abbrev pub input_of : List ℕ → Option Input
input_of name =
    if bytes_eq name (codes "units") then Some Units
    else (if bytes_eq name (codes "play") then Some Play
    else (if bytes_eq name (codes "decode") then Some Decode
    else (if bytes_eq name (codes "capture") then Some Capture
    else (if bytes_eq name (codes "ladder") then Some Ladder
    else (if bytes_eq name (codes "audit") then Some Audit
    else (if bytes_eq name (codes "terminal") then Some Terminal
    else (if bytes_eq name (codes "history") then Some History else None)))))))

abbrev pub name_of : Input → List ℕ
name_of Units = codes "units"
name_of Play = codes "play"
name_of Decode = codes "decode"
name_of Capture = codes "capture"
name_of Ladder = codes "ladder"
name_of Audit = codes "audit"
name_of Terminal = codes "terminal"
name_of History = codes "history"

abbrev pub usage_of : Input → List ℕ
usage_of Play = codes "play [--explain]"
usage_of Decode = codes "decode [--wide] [--explain]"
usage_of Capture = codes "capture [--explain]"
usage_of Ladder = codes "ladder [--explain]"
usage_of Audit = codes "audit [--explain]"
usage_of Terminal = codes "terminal [--keep] [--explain]"
usage_of History = codes "history [--explain] END"
usage_of input = name_of input

-- a word that stands for a thing, as a file's name does, and is no option: it doesn't begin with - (45)
abbrev pub is_operand : List ℕ → Bool
is_operand [] = true
is_operand (first ∷ others) = not (first == 45)

abbrev pub input_text : Input → List ℕ
input_text input =
    codes "mtpbank " ++ (name_of input ++ (codes ": reads standard input: mtpbank "
    ++ (usage_of input ++ codes " < FILE")))

abbrev pub title_text : Input → List ℕ
title_text input = codes "mtpbank " ++ (name_of input ++ codes ": ")

abbrev pub usage_text : Input → List ℕ
usage_text input = usage_of input ++ codes " < FILE"

abbrev pub unknown_text : Input → List ℕ → List ℕ
unknown_text input word =
    title_text input
    ++ (map plain word ++ (codes " isn't an option\nusage: mtpbank " ++ usage_text input))

-- a flag of some subcommand, or what ends options: of these the library says what is wrong
abbrev pub is_known_flag : List ℕ → Bool
is_known_flag word =
    if bytes_eq word (codes "--explain") then true
    else (if bytes_eq word (codes "--wide") then true
    else (if bytes_eq word (codes "--keep") then true else bytes_eq word (codes "--")))

-- a word that a subcommand doesn't take
abbrev pub unknown_advice : Input → List ℕ → Option (List ℕ)
unknown_advice input word = if is_known_flag word then None else Some (unknown_text input word)

-- the first of these words is one that the subcommand doesn't take
abbrev pub input_advice : Input → List (List ℕ) → Option (List ℕ)
input_advice input [] = None
input_advice input (word ∷ words) =
    if is_operand word then Some (input_text input) else unknown_advice input word

-- all but units have a flag, and decode and terminal two
abbrev pub is_flag_of : Input → List ℕ → Bool
is_flag_of Units word = false
is_flag_of Decode word =
    if bytes_eq word (codes "--wide") then true else bytes_eq word (codes "--explain")
is_flag_of Terminal word =
    if bytes_eq word (codes "--keep") then true else bytes_eq word (codes "--explain")
is_flag_of input word = bytes_eq word (codes "--explain")

abbrev pub without_flag : Input → List (List ℕ) → List (List ℕ)
without_flag input [] = []
without_flag input (word ∷ words) = if is_flag_of input word then words else word ∷ words

-- history has an end
abbrev pub is_end : List ℕ → Bool
is_end word = if bytes_eq word (codes "a") then true else bytes_eq word (codes "b")

abbrev pub end_text : List ℕ → Option (List ℕ)
end_text word =
    if is_operand word then (if is_end word then None
    else Some (codes "mtpbank history: " ++ (map plain word
    ++ codes " isn't an end, a or b\nusage: mtpbank history [--explain] END < FILE")))
    else unknown_advice History word

abbrev pub behind_advice : List ℕ → List (List ℕ) → Option (List ℕ)
behind_advice end [] = end_text end
behind_advice end (word ∷ words) = input_advice History (word ∷ words)

-- its flag stands before or behind the end
abbrev pub of_history : List (List ℕ) → Option (List ℕ)
of_history [] = None
of_history (end ∷ words) = behind_advice end (without_flag History words)

abbrev pub history_advice : List (List ℕ) → Option (List ℕ)
history_advice words = of_history (without_flag History words)

-- THE OPTIONS of run that have a value.

abbrev pub option_of : List ℕ → Option RunOption
option_of word =
    if bytes_eq word (codes "--sets") then Some Sets
    else (if bytes_eq word (codes "--links") then Some Links
    else (if bytes_eq word (codes "--users") then Some Users
    else (if bytes_eq word (codes "--messages") then Some Messages
    else (if bytes_eq word (codes "--fail") then Some Fail
    else (if bytes_eq word (codes "--method") then Some Method
    else (if bytes_eq word (codes "--turns") then Some Turns
    else (if bytes_eq word (codes "--checkpoint") then Some Checkpoint
    else (if bytes_eq word (codes "--noise") then Some Noise
    else (if bytes_eq word (codes "--seed") then Some Seed else None)))))))))

abbrev pub option_name : RunOption → List ℕ
option_name Sets = codes "--sets"
option_name Links = codes "--links"
option_name Users = codes "--users"
option_name Messages = codes "--messages"
option_name Fail = codes "--fail"
option_name Method = codes "--method"
option_name Turns = codes "--turns"
option_name Checkpoint = codes "--checkpoint"
option_name Noise = codes "--noise"
option_name Seed = codes "--seed"

abbrev pub range_text : RunOption → List ℕ
range_text Sets = codes "a number from 1 to 16"
range_text Links = codes "a number from 1 to 16"
range_text Users = codes "a number from 1 to 16"
range_text Messages = codes "a number from 1 to 1024"
range_text Fail = codes "the number of a link, 0 to 15"
range_text Method = codes "basic or cyclic"
range_text Turns = codes "a number from 1 to 1000000"
range_text Checkpoint = codes "a number from 1 to 1024"
range_text Noise = codes "a number from 1 to 10000000"
range_text Seed = codes "a number from 0 to 4294967295"

-- a decimal number in this range, without leading zeros
abbrev pub is_in : ℕ → ℕ → Option ℕ → Bool
is_in least most None = false
is_in least most (Some number) = nat_le least number && nat_le number most

abbrev pub is_number_in : ℕ → ℕ → List ℕ → Bool
is_number_in least most word = is_in least most (number_of word)

abbrev pub fits : RunOption → List ℕ → Bool
fits Sets value = is_number_in 1 16 value
fits Links value = is_number_in 1 16 value
fits Users value = is_number_in 1 16 value
fits Messages value = is_number_in 1 1024 value
fits Fail value = is_number_in 0 15 value
fits Method value =
    if bytes_eq value (codes "basic") then true else bytes_eq value (codes "cyclic")
fits Turns value = is_number_in 1 1000000 value
fits Checkpoint value = is_number_in 1 1024 value
fits Noise value = is_number_in 1 10000000 value
fits Seed value = is_number_in 0 4294967295 value

abbrev pub run_usage : List ℕ
run_usage =
    codes "\nusage: mtpbank run [--report] [--fail K] [--noise N] [--seed S] [--sets N] [--links L] [--users U] [--messages M] [--method WORD] [--turns T] [--checkpoint C] [--capture]"

abbrev pub value_text : RunOption → List ℕ → List ℕ
value_text option value =
    codes "mtpbank run: " ++ (option_name option ++ (codes " " ++ (map plain value
    ++ (codes " isn't " ++ (range_text option ++ run_usage)))))

abbrev pub option_text : List ℕ → List ℕ
option_text word =
    codes "mtpbank run: " ++ (map plain word ++ (codes " isn't an option" ++ run_usage))

-- An option and its value in one word, with = (61) between them.

abbrev pub is_equals : ℕ → Bool
is_equals c = c == 61

abbrev pub value_behind : Option RunOption → List ℕ → List ℕ → Option (List ℕ)
value_behind None word value = Some (option_text word)
value_behind (Some option) word value =
    if fits option value then None else Some (value_text option value)

abbrev pub is_flag : List ℕ → Bool
is_flag word =
    if bytes_eq word (codes "--report") then true else bytes_eq word (codes "--capture")

abbrev pub joined_text : Option ℕ → List ℕ → Option (List ℕ)
joined_text None word = if is_flag word then None else Some (option_text word)
joined_text (Some place) word =
    value_behind (option_of (take place word)) word (drop (place + 1) word)

-- what is said of a word that is no flag, nor an option with its value behind it
abbrev pub word_text : List ℕ → Option (List ℕ)
word_text word = joined_text (position is_equals word) word

-- a word that may be an option with its value behind it
abbrev pub said_of : Option RunOption → List ℕ → Option (List ℕ)
said_of None word = word_text word
said_of (Some option) word = None

abbrev pub is_there : {A : Type 0} → Option A → Bool
is_there None = false
is_there (Some it) = true

-- what is said of the first word that is wrong; an option that wants a value stands before them, or none
abbrev pub run_advice : Option RunOption → List (List ℕ) → Option (List ℕ)
run_advice before [] = None
run_advice (Some option) (value ∷ words) =
    if fits option value then run_advice None words else Some (value_text option value)
run_advice None (word ∷ words) =
    option_or (said_of (option_of word) word) (run_advice (option_of word) words)

-- a link that is to fail, where there are fewer: the line of the fault, which links there are, and the usage
abbrev pub linkless_text : ℕ → ℕ → List ℕ
linkless_text fail links =
    (codes "fault link\nmtpbank run: --fail " ++ (decimal fail
    ++ (codes " isn't a link: they count from 0, and --links is " ++ decimal links))) ++ run_usage

-- THE COMMANDS, with a word on each: where none is there, or one that is none.
abbrev pub commands : List ℕ
commands =
    codes "\nusage: mtpbank COMMAND\n  units     reads the octets of a line as a signalling terminal does\n  play      plays a script of two ends\n  decode    reads single signal units\n  capture   plays a script and writes its units as a pcap file\n  ladder    plays a script and draws it as a chart\n  audit     checks the history of a link set\n  history   plays a script and prints the history of one end\n  terminal  drives one end of a link set\n  run       runs two banks in threads\nmanuals: mtpbank --help, mtpbank COMMAND --help"

abbrev pub missing_text : List ℕ
missing_text = codes "mtpbank: a command is missing" ++ commands

abbrev pub command_text : List ℕ → List ℕ
command_text word =
    codes "mtpbank: " ++ (map plain word ++ (codes " isn't a command" ++ commands))

-- THE ADVICE
abbrev pub told_of_input : Option Input → List (List ℕ) → Option (List ℕ)
told_of_input None words = None
told_of_input (Some History) words = history_advice words
told_of_input (Some Play) words = input_advice Play (without_flag Play words)
told_of_input (Some Units) words = input_advice Units (without_flag Units words)
told_of_input (Some Decode) words = input_advice Decode (without_flag Decode (without_flag Decode words))
told_of_input (Some Capture) words = input_advice Capture (without_flag Capture words)
told_of_input (Some Ladder) words = input_advice Ladder (without_flag Ladder words)
told_of_input (Some Audit) words = input_advice Audit (without_flag Audit words)
told_of_input (Some Terminal) words = input_advice Terminal (without_flag Terminal (without_flag Terminal words))

abbrev pub advice : List (List ℕ) → Option (List ℕ)
advice [] = Some missing_text
advice (name ∷ words) =
    if bytes_eq name (codes "run") then run_advice None words
    else (if bytes_eq name (codes "help") then None
    else (if is_there (input_of name) then told_of_input (input_of name) words
    else Some (command_text name)))
