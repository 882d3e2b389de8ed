-- A TURN OF A MANAGED LINK: a turn of the bench, and behind it what level 3 asks.
use Rattle.std.specs.Prelude.{◌≡◌, ℕ, Bool, List, [], ◌∷◌, ◌++◌, Option, Some, None}
use Rattle.std.specs.Option.{option_to_list}
use Rattle.l2_units.specs.declared.unit.Unit.{Unit as SignalUnit}
use Rattle.l3_link.specs.Table.{activated, deactivated, turned}
use Rattle.link_term.specs.Faults.{fault_of}
use Rattle.link_term.specs.Filling.{Taps}
use Rattle.link_term.specs.declared.fault.TermFault.{TermFault}
use Rattle.set_events.specs.declared.fault.SetFault.{SetFault}
use Rattle.term_bench.specs.Ends.{BenchState}
use Rattle.term_bench.specs.Waiting.{Hears as HearsAlone, HearsBroken as HearsAloneBroken, Waits as WaitsAlone}
use Rattle.term_bench.specs.declared.turn.Turn.{Turn}
use Rattle.term_managed.specs.Carrying.{Carries, CarriesSome}
use Rattle.term_managed.specs.Ends.{ManagedState, noted, seen_at}
use Rattle.term_managed.specs.declared.fault.ManageFault.{ManageFault}
use Rattle.term_managed.specs.declared.turn.Deed.{Deed}

-- a turn, and what was asked behind it
pub record TurnAndDeeds : Type 0 where
  pub turn : Turn
  pub deeds : List Deed

-- BEHIND A TURN the link's management sees how the link stands, and what it asks is carried out
abbrev pub Manages : ℕ → ManagedState → List Deed → ManagedState → Type 0
Manages link old deeds new = Carries link (turned (seen_at link old)) old deeds new

abbrev pub ManagesSome : ℕ → SetFault → ManagedState → ManagedState → Type 0
ManagesSome link fault old new = CarriesSome link (turned (seen_at link old)) fault old new

-- the bench took a turn of this link
abbrev pub behind_turn : ℕ → Turn → BenchState → ManagedState → ManagedState
behind_turn link turn bench old = noted link turn (record old { bench = bench })

-- A LINK IS ACTIVATED, or deactivated
abbrev pub Activates : ℕ → ManagedState → List Deed → ManagedState → Type 0
Activates link old deeds new = Carries link (activated (seen_at link old)) old deeds new

abbrev pub Deactivates : ℕ → ManagedState → List Deed → ManagedState → Type 0
Deactivates link old deeds new = Carries link deactivated old deeds new

-- one that is so already isn't; or what is asked ends with a fault
abbrev pub NotActivated : ℕ → ManageFault → ManagedState → ManagedState → Type 0
NotActivated link ManageFault.AlreadySo old new = new ≡ old
NotActivated link (ManageFault.Set fault) old new = CarriesSome link (activated (seen_at link old)) fault old new

abbrev pub NotDeactivated : ℕ → ManageFault → ManagedState → ManagedState → Type 0
NotDeactivated link ManageFault.AlreadySo old new = new ≡ old
NotDeactivated link (ManageFault.Set fault) old new = CarriesSome link deactivated fault old new

-- THESE BITS COME, and the octet that is whole then has its turn
pub record Hears (link : ℕ) (bits : List Bool) (old : ManagedState) (heard : TurnAndDeeds) (unit : Option SignalUnit)
    (new : ManagedState) : Type 0 where
  pub between : BenchState
  pub hears : HearsAlone link bits old.bench heard.turn unit between
  pub manages : Manages link (behind_turn link heard.turn between old) heard.deeds new

-- or that turn is broken off, or what is asked behind it
pub data HearsBroken (link : ℕ) (bits : List Bool) (fault : TermFault) (old new : ManagedState) : Type 0 where
  in_turn : HearsAloneBroken link bits fault old.bench new.bench → new.kept ≡ old.kept → HearsBroken link bits fault old new
  behind : (between : BenchState) (turn : Turn) (unit : Option SignalUnit) (told : SetFault) → fault ≡ fault_of told
      → HearsAlone link bits old.bench turn unit between → ManagesSome link told (behind_turn link turn between old) new
      → HearsBroken link bits fault old new

-- no octet is whole yet
pub record Waits (link : ℕ) (bits : List Bool) (old new : ManagedState) : Type 0 where
  pub waits : WaitsAlone link bits old.bench new.bench
  pub kept_are : new.kept ≡ old.kept

-- A BIT COMES
abbrev pub HearsBit : {T : Type 0} → (T → SignalUnit → T → Type 0) → Option TurnAndDeeds → ℕ → Bool → ManagedState → ManagedState
    → T → T → Type 0
HearsBit tells None link bit old new tap tap' = Waits link (bit ∷ []) old new × (tap' ≡ tap)
HearsBit tells (Some heard) link bit old new tap tap' =
    (unit : Option SignalUnit) × Hears link (bit ∷ []) old heard unit new × Taps tells unit tap tap'

-- BITS COME PIECE BY PIECE, of eight bits or fewer, the first piece first: a turn where an octet is whole with a piece, and
-- the unit that it appended, if any; else the piece waits
pub record HeardTurn : Type 0 where
  pub turn : TurnAndDeeds
  pub unit : Option SignalUnit

abbrev pub HearsPiece : ℕ → List Bool → ManagedState → Option HeardTurn → ManagedState → Type 0
HearsPiece link bits old None new = Waits link bits old new
HearsPiece link bits old (Some heard) new = Hears link bits old heard.turn heard.unit new

abbrev pub HearsPieces : ℕ → List (List Bool) → ManagedState → List HeardTurn → ManagedState → Type 0
HearsPieces link [] old heard new = (heard ≡ []) × (new ≡ old)
HearsPieces link (bits ∷ pieces) old heard new =
    (between : ManagedState) × (one : Option HeardTurn) × (later : List HeardTurn)
    × HearsPiece link bits old one between × HearsPieces link pieces between later new
    × (heard ≡ option_to_list one ++ later)
