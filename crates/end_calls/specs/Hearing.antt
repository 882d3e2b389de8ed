-- OCTETS COME on a link's line, the first one first: each has its turn, and puts one.
use Rattle.std.specs.Prelude.{◌≡◌, ◌<◌, ◌≤◌, ℕ, ◌+◌, nat_lt, List, [], ◌∷◌, length, take, drop, Some, Result, Ok, Err, slice_get, if◌then◌else◌}
use Rattle.end_calls.specs.Codes.{no_such_link, of_term}
use Rattle.end_calls.specs.declared.fault.CallFault.{CallFault}
use Rattle.end_calls.specs.declared.hearing.HeardValues.{HeardValues}
use Rattle.l2_bits.specs.LineBits.{bits_of}
use Rattle.l2_units.specs.declared.unit.Unit.{Unit as SignalUnit}
use Rattle.link_term.specs.declared.fault.TermFault.{TermFault}
use Rattle.link_term.specs.declared.tap.LastUnit.{LastUnit}
use Rattle.term_bench.specs.declared.turn.Turn.{Turn}
use Rattle.term_managed.specs.Ends.{ManagedState}
use Rattle.term_managed.specs.Turns.{HeardTurn, Hears, HearsBroken}

abbrev pub HearsAll : ℕ → List ℕ → ManagedState → List HeardTurn → ManagedState → Type 0
HearsAll link [] old [] new = new ≡ old
HearsAll link [] old (one ∷ heard) new = ⊥
HearsAll link (octet ∷ octets) old [] new = ⊥
HearsAll link (octet ∷ octets) old (one ∷ heard) new =
    (between : ManagedState) × Hears link (bits_of 8 octet) old one.turn one.unit between × HearsAll link octets between heard new

-- or so many of them have, and that of the next one is broken off, or what is asked behind it
pub record HearsSome (link : ℕ) (octets : List ℕ) (fault : TermFault) (old : ManagedState) (heard : List HeardTurn)
    (new : ManagedState) : Type 0 where
  pub octet : ℕ
  pub between : ManagedState
  pub is_next : slice_get octets (length heard) ≡ Some octet
  pub before : HearsAll link (take (length heard) octets) old heard between
  pub broken : HearsBroken link (bits_of 8 octet) fault between new

-- what a tap tells that keeps the last unit
abbrev pub keeps : LastUnit → SignalUnit → LastUnit → Type 0
keeps before unit after = after.unit ≡ Some unit

-- WHAT THE TURNS PUT, and in how many of them messages for users were heard
abbrev pub puts : List HeardTurn → List ℕ
puts [] = []
puts (one ∷ heard) = one.turn.turn.put ∷ puts heard

abbrev pub brings : Turn → ℕ
brings turn = if nat_lt 0 turn.messages then 1 else 0

abbrev pub messages_in : List HeardTurn → ℕ
messages_in [] = 0
messages_in (one ∷ heard) = brings one.turn.turn + messages_in heard

abbrev pub tells : List HeardTurn → HeardValues
tells heard = record { octets = length heard; messages = messages_in heard }

abbrev pub nothing_heard : HeardValues
nothing_heard = record { octets = 0; messages = 0 }

-- turns of which this holds: what they put stands at the front of the room, whose other octets stay
pub record HasHeard (Went : ManagedState → List HeardTurn → ManagedState → Type 0) (room : List ℕ) (old : ManagedState)
    (room' : List ℕ) (told : HeardValues) (new : ManagedState) : Type 0 where
  pub heard : List HeardTurn
  pub went : Went old heard new
  pub front_is : take (length heard) room' ≡ puts heard
  pub rest_is : drop (length heard) room' ≡ drop (length heard) room
  pub told_is : told ≡ tells heard

-- THE CALL: all are heard; or none, since there is no such link, or no room for as many; or some, up to a fault
pub data IsNotHeard (link : ℕ) (octets room : List ℕ) (fault : CallFault) (old : ManagedState) (room' : List ℕ)
    (told : HeardValues) (new : ManagedState) : Type 0 where
  no_link : fault ≡ no_such_link → length old.bench.links ≤ link → room' ≡ room → told ≡ nothing_heard → new ≡ old
      → IsNotHeard link octets room fault old room' told new
  no_room : fault ≡ CallFault.NoRoom → length room < length octets → room' ≡ room → told ≡ nothing_heard → new ≡ old
      → IsNotHeard link octets room fault old room' told new
  broken : (why : TermFault) → fault ≡ of_term why → HasHeard (HearsSome link octets why) room old room' told new
      → IsNotHeard link octets room fault old room' told new

abbrev pub IsHeard : ℕ → List ℕ → List ℕ → ManagedState → Result (Unit {0}) CallFault → List ℕ → HeardValues → ManagedState
    → Type 0
IsHeard link octets room old (Ok done) room' told new = HasHeard (HearsAll link octets) room old room' told new
IsHeard link octets room old (Err fault) room' told new = IsNotHeard link octets room fault old room' told new
