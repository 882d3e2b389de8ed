-- BITS THAT COME ON A LINE, in pieces of any size: a turn is taken for each eight of them, and fewer than eight wait.
use Rattle.std.specs.Prelude.{◌≡◌, ◌<◌, ◌≤◌, ◌^◌, ℕ, Bool, List, [], ◌∷◌, ◌++◌, length, take, drop, map, Option, None, Some, slice_get, slice_set}
use Rattle.std.specs.Option.{option_to_list}
use Rattle.l2_bits.specs.LineBits.{bits_of, number_of}
use Rattle.link_term.specs.Filling.{Taps}
use Rattle.link_term.specs.declared.fault.TermFault.{TermFault}
use Rattle.l2_units.specs.declared.unit.Unit.{Unit as SignalUnit}
use Rattle.term_bench.specs.Ends.{AtLink, BenchState}
use Rattle.term_bench.specs.Turns.{Breaks, Turns}
use Rattle.term_bench.specs.declared.turn.Turn.{Turn}

abbrev pub waits_with : List Bool → AtLink → AtLink
waits_with bits at = record at { waiting = bits }

-- with these bits behind those that wait an octet is whole, the first bit the lowest (Q.703 2.4); the others wait
pub record Completes (link : ℕ) (bits : List Bool) (old : BenchState) (octet : ℕ) (new : BenchState) : Type 0 where
  pub was : AtLink
  pub is_at : slice_get old.links link ≡ Some was
  pub enough : 8 ≤ length (was.waiting ++ bits)
  pub octet_is : octet ≡ number_of (take 8 (was.waiting ++ bits))
  pub links_are : new.links ≡ slice_set old.links link (waits_with (drop 8 (was.waiting ++ bits)) was)
  pub set_is : new.set ≡ old.set

-- no octet is whole yet: all wait
pub record Waits (link : ℕ) (bits : List Bool) (old new : BenchState) : Type 0 where
  pub was : AtLink
  pub is_at : slice_get old.links link ≡ Some was
  pub few : length (was.waiting ++ bits) < 8
  pub links_are : new.links ≡ slice_set old.links link (waits_with (was.waiting ++ bits) was)
  pub set_is : new.set ≡ old.set

-- LAW: where no bit waits, that octet is the one whose bits come
abbrev pub OctetsAreWhole : Type 0
OctetsAreWhole =
    (link octet whole : ℕ) (old new : BenchState) → octet < 2 ^ 8
    → (completes : Completes link (bits_of 8 octet) old whole new) → completes.was.waiting ≡ [] → whole ≡ octet

-- THESE BITS COME, and the octet that is whole then has its turn
pub record Hears (link : ℕ) (bits : List Bool) (old : BenchState) (turn : Turn) (unit : Option SignalUnit)
    (new : BenchState) : Type 0 where
  pub octet : ℕ
  pub between : BenchState
  pub completes : Completes link bits old octet between
  pub turns : Turns link octet between turn unit new

-- or that turn was broken off, by this fault
pub record HearsBroken (link : ℕ) (bits : List Bool) (fault : TermFault) (old new : BenchState) : Type 0 where
  pub octet : ℕ
  pub between : BenchState
  pub completes : Completes link bits old octet between
  pub breaks : Breaks link octet fault between new

-- A BIT COMES: where no octet is whole with it nothing else happens
abbrev pub HearsBit : {T : Type 0} → (T → SignalUnit → T → Type 0) → Option Turn → ℕ → Bool → BenchState → BenchState
    → T → T → Type 0
HearsBit tells None link bit old new tap tap' = Waits link (bit ∷ []) old new × (tap' ≡ tap)
HearsBit tells (Some turn) link bit old new tap tap' =
    (unit : Option SignalUnit) × Hears link (bit ∷ []) old turn unit new × Taps tells unit tap tap'

-- OCTETS COME, the first one first: each has its turn
abbrev pub HearsAll : ℕ → List ℕ → BenchState → List Turn → BenchState → Type 0
HearsAll link [] old [] new = new ≡ old
HearsAll link [] old (turn ∷ turns) new = ⊥
HearsAll link (octet ∷ octets) old [] new = ⊥
HearsAll link (octet ∷ octets) old (turn ∷ turns) new =
    (between : BenchState) × (unit : Option SignalUnit) × Hears link (bits_of 8 octet) old turn unit between
    × HearsAll link octets between turns new

-- OCTETS COME, up to a fault: no memory for what the turns do, and none is taken; or so many octets had their turns, and that
-- of the next one was broken off
pub data HearsSome (link : ℕ) (octets : List ℕ) (fault : TermFault) (old : BenchState) (made : List Turn) (new : BenchState)
    : Type 0 where
  no_room : fault ≡ TermFault.NoMemory → made ≡ [] → new ≡ old → HearsSome link octets fault old made new
  broken : (count octet : ℕ) (between : BenchState) → slice_get octets count ≡ Some octet
      → HearsAll link (take count octets) old made between → HearsBroken link (bits_of 8 octet) fault between new
      → HearsSome link octets fault old made new

-- BITS COME PIECE BY PIECE, of eight bits or fewer, the first piece first: a turn where an octet is whole with a piece, and
-- the unit that it appended, if any; else the piece waits
pub record TurnAndUnit : Type 0 where
  pub turn : Turn
  pub unit : Option SignalUnit

abbrev pub HearsPiece : ℕ → List Bool → BenchState → Option TurnAndUnit → BenchState → Type 0
HearsPiece link bits old None new = Waits link bits old new
HearsPiece link bits old (Some heard) new = Hears link bits old heard.turn heard.unit new

abbrev pub HearsPieces : ℕ → List (List Bool) → BenchState → List TurnAndUnit → BenchState → Type 0
HearsPieces link [] old turns new = (turns ≡ []) × (new ≡ old)
HearsPieces link (bits ∷ pieces) old turns new =
    (between : BenchState) × (turn : Option TurnAndUnit) × (later : List TurnAndUnit)
    × HearsPiece link bits old turn between × HearsPieces link pieces between later new
    × (turns ≡ option_to_list turn ++ later)

-- LAW: what came decides what was done, and what the bench is then
abbrev pub OneHearing : Type 0
OneHearing =
    (link : ℕ) (pieces : List (List Bool)) (old : BenchState) (a b : List TurnAndUnit) (x y : BenchState)
    → HearsPieces link pieces old a x → HearsPieces link pieces old b y → (a ≡ b) × (x ≡ y)

-- LAW: as many octets are put as came
abbrev pub AsManyArePut : Type 0
AsManyArePut =
    (link : ℕ) (octets : List ℕ) (old new : BenchState) (turns : List Turn)
    → HearsAll link octets old turns new → length (map (λ turn. turn.put) turns) ≡ length octets
