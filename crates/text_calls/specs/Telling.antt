-- WHAT A SUBCOMMAND MAKES OF OCTETS, IN TWO BUFFERS.
use Rattle.std.specs.Prelude.{◌≡◌, ◌<◌, ◌≤◌, ◌⊎◌, ℕ, List, [], ◌∷◌, ◌++◌, length, drop, Option, Some, None, Result, Ok, Err}
use Rattle.mtpbank_words.specs.declared.words.Words.{Words}
use Rattle.text_base.specs.declared.fault.Fault.{Fault}
use Rattle.text_base.specs.declared.fault.Fault.TheVariants.{Input, Memory, Read, Long, Write}
use Rattle.text_base.specs.Printing.{IsEnd}
use Rattle.text_calls.specs.Running.{IsTextOf, longest_of}
use Rattle.text_calls.specs.declared.running.TextFault.{TextFault}
use Rattle.text_calls.specs.declared.telling.TextLengths.{TextLengths}
use Rattle.text_calls.specs.declared.telling.TextRefusal.{TextRefusal}
use Rattle.text_calls.specs.declared.telling.TextRefusal.TheVariants.{NoMemory, NoRoom, NoSuchSubcommand}

-- lines, each ended by LF
abbrev pub IsLines : List ℕ → Type 0
IsLines told = (shown : List ℕ) × (told ≡ shown ++ 10 ∷ [])

-- what is told of how it ended: nothing, or, where the input is at fault, lines, whose words aren't stated; over memory
-- nothing else can be at fault
abbrev pub IsToldOfEnd : Result (Unit {0}) (Fault TextFault) → List ℕ → Type 0
IsToldOfEnd (Ok done) told = told ≡ []
IsToldOfEnd (Err (Input fault)) told = IsLines told
IsToldOfEnd (Err Long) told = IsLines told
IsToldOfEnd (Err Memory) told = ⊥
IsToldOfEnd (Err Read) told = ⊥
IsToldOfEnd (Err Write) told = ⊥

-- an input is too long exactly where it is
abbrev pub IsLongExactly : ℕ → Result (Unit {0}) (Fault TextFault) → List ℕ → Type 0
IsLongExactly longest (Ok done) input = length input ≤ longest
IsLongExactly longest (Err Long) input = longest < length input
IsLongExactly longest (Err fault) input = Unit {0}

-- what the subcommand prints of an input, up to its fault if it has one, and what is told of that
pub record IsMade (words : Words) (input printed told : List ℕ) : Type 0 where
  pub outcome : Result (Unit {0}) (Fault TextFault)
  pub ends : IsEnd outcome (IsTextOf words input) printed
  pub bounded : IsLongExactly (longest_of words) outcome input
  pub tells : IsToldOfEnd outcome told

-- octets stand at the front of a buffer, and what was behind them still does
abbrev pub IsPut : List ℕ → List ℕ → List ℕ → Type 0
IsPut octets old new = new ≡ octets ++ drop (length octets) old

-- both stand in their buffers; or one of these is too small, both are as they were, and what is wanted is told; or memory is
-- wanted, or no subcommand was asked for, and all is as it was
abbrev pub Tells : Option Words → List ℕ → List ℕ → List ℕ → TextLengths → Result (Unit {0}) TextRefusal
    → List ℕ → List ℕ → TextLengths → Type 0
Tells asked input room room-told lengths (Ok done) room' room-told' lengths' =
    (words : Words) × (printed told : List ℕ) × (asked ≡ Some words) × IsMade words input printed told
    × (lengths' ≡ record { printed = length printed; told = length told })
    × IsPut printed room room' × IsPut told room-told room-told'
Tells asked input room room-told lengths (Err NoRoom) room' room-told' lengths' =
    (words : Words) × (printed told : List ℕ) × (asked ≡ Some words) × IsMade words input printed told
    × (lengths' ≡ record { printed = length printed; told = length told })
    × ((length room < length printed) ⊎ (length room-told < length told))
    × (room' ≡ room) × (room-told' ≡ room-told)
Tells asked input room room-told lengths (Err NoMemory) room' room-told' lengths' =
    (words : Words) × (asked ≡ Some words) × (room' ≡ room) × (room-told' ≡ room-told) × (lengths' ≡ lengths)
Tells asked input room room-told lengths (Err NoSuchSubcommand) room' room-told' lengths' =
    (asked ≡ None) × (room' ≡ room) × (room-told' ≡ room-told) × (lengths' ≡ lengths)
