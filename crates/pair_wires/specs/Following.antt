-- HOW A LINK'S LINE IN THE WORLD FOLLOWS what is under way on it to an end: the units that the far end's set gave in the
-- link's present life.
use Rattle.std.specs.Prelude.{◌≡◌, ◌⊎◌, ℕ, Bool, true, false, not, ◌&&◌, ◌||◌, List, [], ◌∷◌, ◌++◌, Option, Some, None, if◌then◌else◌}
use Rattle.l2_units.specs.declared.unit.Unit.{Unit as SignalUnit}
use Rattle.set_model.specs.State.{State, is_settled, is_up}
use Rattle.set_octets.specs.Starting.{HearsNoneYet}
use Rattle.term_asks.specs.Asking.{IsStartFisu, Standing, is_status}
use Rattle.pair_rises.specs.Rises.{Cover, awaited}
use Rattle.pair_wires.specs.Standing.{IsStarting}
use Rattle.pair_wires.specs.Ways.{Carried, Way}

-- WHAT SETS GAVE of it
abbrev pub given_of : Carried → List SignalUnit
given_of c = if c.given then c.unit ∷ [] else []

abbrev pub givens : List Carried → List SignalUnit
givens [] = []
givens (c ∷ cs) = given_of c ++ givens cs

-- FISUs and MSUs; and the FISUs of a terminal whose set isn't asked yet
abbrev pub is_signal : Carried → Bool
is_signal c = not (is_status c.unit)

abbrev pub is_idle : Carried → Bool
is_idle c = not c.given && is_signal c

abbrev pub has_signal : List Carried → Bool
has_signal [] = false
has_signal (c ∷ cs) = is_signal c || has_signal cs

abbrev pub has_idle : List Carried → Bool
has_idle [] = false
has_idle (c ∷ cs) = is_idle c || has_idle cs

-- what a terminal made is a status, or the FISU of an end that sent and accepted nothing
abbrev pub IsMade : Carried → Type 0
IsMade c = c.given ≡ false → is_status c.unit ≡ false → IsStartFisu c.unit

abbrev pub AreMade : List Carried → Type 0
AreMade [] = Unit {0}
AreMade (c ∷ cs) = IsMade c × AreMade cs

-- no such FISU comes behind what the set gave
abbrev pub IdlesFirst : List Carried → Type 0
IdlesFirst [] = Unit {0}
IdlesFirst (c ∷ cs) = (c.given ≡ true → has_idle cs ≡ false) × IdlesFirst cs

-- THE LINK IS ON at an end: on its way into service there, and neither out of service nor told to stop (marked); or up
-- at the set
pub data IsOn (link : ℕ) (s : State) (standing : Standing) (marked : Bool) : Type 0 where
  on_its_way : IsStarting standing → marked ≡ false → IsOn link s standing marked
  up_there : is_up link s ≡ true → IsOn link s standing marked

-- OF A LINK TO AN END, whose set holds s, the far end's t: how each stands to the link's life, the line of the world, how
-- the link stands, and what is under way
pub record Follows (mine far : Cover) (link : ℕ) (s t : State) (line : List SignalUnit) (standing : Standing) (marked : Bool) (way : Way)
    : Type 0 where
  -- what sets gave, and the world's line doesn't have any more, is in front; and is old where the link is on
  pub gone : List SignalUnit
  pub carries : givens way.old ++ givens way.fresh ≡ gone ++ line
  pub made_old : AreMade way.old
  pub made_fresh : AreMade way.fresh
  pub aged : IsOn link s standing marked → (left : List SignalUnit) × (givens way.old ≡ gone ++ left)
  -- on its way: what is fresh is of a life that it may join, or the far end's terminal made it
  pub calm : IsStarting standing → marked ≡ false → (mine ≡ awaited → ⊥) → givens way.fresh ≡ []
  pub joins : IsStarting standing → marked ≡ false → has_signal way.fresh ≡ true → (mine ≡ awaited) ⊎ (is_settled link t ≡ true)
  pub ordered : IsOn link s standing marked → IdlesFirst way.fresh
  -- up: it heard nothing that the far end's set gave while there's such a FISU, or while the far end may join yet
  pub unheard : is_up link s ≡ true → has_idle way.fresh ≡ true → HearsNoneYet link s
  pub unsent : far ≡ awaited → line ≡ []
  pub first : far ≡ awaited → is_up link s ≡ true → HearsNoneYet link s

-- how both ends stand to the link's life
pub record LinkApart (mine far : Cover) (link : ℕ) (s t : State) : Type 0 where
  pub settled : is_settled link s ≡ true → (mine ≡ awaited → ⊥) → is_up link t ≡ false
  pub settled_far : is_settled link t ≡ true → (far ≡ awaited → ⊥) → is_up link s ≡ false
  pub waits : mine ≡ awaited → is_settled link s ≡ true
  pub waits_far : far ≡ awaited → is_settled link t ≡ true
  pub awaits : mine ≡ awaited → is_settled link t ≡ false
  pub awaits_far : far ≡ awaited → is_settled link s ≡ false

-- WHAT HAPPENS TO A WAY: its foremost unit is heard; it's all old; or a unit is sent
abbrev pub heard_from : List Carried → List Carried → Way
heard_from [] [] = record { old = []; fresh = [] }
heard_from [] (c ∷ fresh) = record { old = []; fresh = fresh }
heard_from (c ∷ old) fresh = record { old = old; fresh = fresh }

abbrev pub heard_off : Way → Way
heard_off way = heard_from way.old way.fresh

-- the foremost unit
pub data IsFront (c : Carried) (way : Way) : Type 0 where
  in_old : (old : List Carried) → way.old ≡ c ∷ old → IsFront c way
  in_fresh : (fresh : List Carried) → way.old ≡ [] → way.fresh ≡ c ∷ fresh → IsFront c way

abbrev pub settled_way : Way → Way
settled_way way = record { old = way.old ++ way.fresh; fresh = [] }

abbrev pub sent_on : Carried → Way → Way
sent_on c way = record { old = way.old; fresh = way.fresh ++ c ∷ [] }

abbrev pub sent_if : Option SignalUnit → Bool → Way → Way
sent_if None given way = way
sent_if (Some unit) given way = sent_on (record { unit = unit; given = given }) way
