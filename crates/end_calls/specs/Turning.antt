-- ONE OCTET COMES on a link's line: its turn, and the unit that is appended in it.
use Rattle.std.specs.Prelude.{◌≡◌, ◌≤◌, ◌<◌, ℕ, List, [], ◌++◌, drop, length, Option, Some, None, Result, Ok, Err}
use Rattle.end_calls.specs.Codes.{no_such_link, of_term}
use Rattle.end_calls.specs.Hearing.{brings}
use Rattle.end_calls.specs.declared.fault.CallFault.{CallFault}
use Rattle.end_calls.specs.declared.turning.TurnedValues.{TurnedValues}
use Rattle.l2_bits.specs.LineBits.{bits_of}
use Rattle.l2_units.specs.declared.profile.Profile.TheVariants.{Narrow}
use Rattle.l2_units.specs.declared.unit.Unit.{Unit as SignalUnit}
use Rattle.link_term.specs.declared.fault.TermFault.{TermFault}
use Rattle.term_managed.specs.Ends.{ManagedState}
use Rattle.term_managed.specs.Turns.{HeardTurn, Hears, HearsBroken}
use Rattle.text_entries.specs.Texts.{unit_octets}

-- the most octets of a unit, without check octets
abbrev pub longest_unit : ℕ
longest_unit = 276

-- octets at the front of a room, whose other octets stay
abbrev pub at_front : List ℕ → List ℕ → List ℕ
at_front octets room = octets ++ drop (length octets) room

-- the octets of a unit that was appended, without check octets; none where none was
abbrev pub unit_text : Option SignalUnit → List ℕ
unit_text None = []
unit_text (Some unit) = unit_octets Narrow unit

abbrev pub turned : HeardTurn → TurnedValues
turned one = record { unit = length (unit_text one.unit); put = one.turn.turn.put; message = brings one.turn.turn }

-- THE CALL: the octet has its turn; or nothing is done, since there is no such link, or too little room; or that turn is
-- broken off, or what is asked behind it
pub data IsNotTurned (link octet : ℕ) (room : List ℕ) (was : TurnedValues) (fault : CallFault) (old : ManagedState)
    (room' : List ℕ) (told : TurnedValues) (new : ManagedState) : Type 0 where
  no_link : fault ≡ no_such_link → length old.bench.links ≤ link → room' ≡ room → told ≡ was → new ≡ old
      → IsNotTurned link octet room was fault old room' told new
  no_room : fault ≡ CallFault.NoRoom → length room < longest_unit → room' ≡ room → told ≡ was → new ≡ old
      → IsNotTurned link octet room was fault old room' told new
  broken : (why : TermFault) → fault ≡ of_term why → HearsBroken link (bits_of 8 octet) why old new → room' ≡ room → told ≡ was
      → IsNotTurned link octet room was fault old room' told new

abbrev pub IsTurned : ℕ → ℕ → List ℕ → TurnedValues → ManagedState → Result (Unit {0}) CallFault → List ℕ → TurnedValues
    → ManagedState → Type 0
IsTurned link octet room was old (Ok done) room' told new =
    (one : HeardTurn) × Hears link (bits_of 8 octet) old one.turn one.unit new × (told ≡ turned one)
    × (room' ≡ at_front (unit_text one.unit) room)
IsTurned link octet room was old (Err fault) room' told new = IsNotTurned link octet room was fault old room' told new
