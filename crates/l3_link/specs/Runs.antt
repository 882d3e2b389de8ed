-- Runs of the management of a link: a run is the list of its inputs, the first one first.
use Rattle.std.specs.Prelude.{◌≡◌, ◌+◌, ℕ, Bool, true, false, not, ◌&&◌, ◌||◌, List, [], ◌∷◌, Option, Some, None, ⊤, if◌then◌else◌}
use Rattle.l3_link.specs.Management.{Management, fresh, is_left, is_off}
use Rattle.l3_link.specs.Table.{Row, silent, activated, deactivated, turned, answered}
use Rattle.l3_link.specs.declared.signals.Ask.{Ask}
use Rattle.l3_link.specs.declared.signals.Seen.{Seen}
use Rattle.l3_link.specs.declared.times.Times.{Times}

pub data Input : Type 0 where
  activate : Seen → Input
  deactivate : Input
  turn : Seen → Input
  -- what was asked last was done, or refused
  answer : Bool → Input

-- an activated link can't be activated, nor one that isn't be deactivated
abbrev pub is_refused : Management → Input → Bool
is_refused m (activate s) = not (is_off m.state)
is_refused m deactivate = is_off m.state
is_refused m _ = false

-- what is refused changes nothing
abbrev pub step : Management → Input → Row
step m (activate s) = if is_off m.state then activated s m else silent m
step m deactivate = if is_off m.state then silent m else deactivated m
step m (turn s) = turned s m
step m (answer done) = answered done m

-- the management after these inputs
abbrev pub after : Management → List Input → Management
after m [] = m
after m (input ∷ inputs) = after (step m input).next inputs

-- the same, new at first
abbrev pub run : Times → Bool → List Input → Management
run times tests inputs = after (fresh times tests) inputs

-- none of these inputs asks anything
abbrev pub AsksNothing : Management → List Input → Type 0
AsksNothing m [] = ⊤
AsksNothing m (input ∷ inputs) = ((step m input).asked ≡ None) × AsksNothing (step m input).next inputs

abbrev pub is_activate : Input → Bool
is_activate (activate s) = true
is_activate _ = false

abbrev pub is_deactivate : Input → Bool
is_deactivate deactivate = true
is_deactivate _ = false

-- how many of these are turns
abbrev pub turns : List Input → ℕ
turns [] = 0
turns (turn s ∷ inputs) = 1 + turns inputs
turns (_ ∷ inputs) = turns inputs

-- the link is told to start
abbrev pub is_rise : Option Ask → Bool
is_rise (Some (Ask.Rise emergency)) = true
is_rise _ = false

abbrev pub is_timed : Option Ask → Bool
is_timed (Some Ask.Timed) = true
is_timed _ = false

-- the set settles the link where this is done
abbrev pub settles : Option Ask → Bool
settles (Some Ask.Timed) = true
settles (Some Ask.NoAnswer) = true
settles _ = false

-- what this input shows of the link: a link that's Off is seen where it's activated, another one behind each turn
abbrev pub sees : Management → Input → Option Seen
sees m (activate s) = if is_off m.state then Some s else None
sees m (turn s) = if is_off m.state then None else Some s
sees m _ = None

-- the row at the last of these answers, which come behind this row
abbrev pub answered_by : Row → List Bool → Row
answered_by r [] = r
answered_by r (done ∷ answers) = answered_by (answered done r.next) answers

-- by one of these answers the set has settled the link
abbrev pub settled_by : Row → List Bool → Bool
settled_by r [] = false
settled_by r (done ∷ answers) = (done && settles r.asked) || settled_by (answered done r.next) answers

-- by this input the link is left no more, or deactivated
abbrev pub ends_left : Input → Bool
ends_left (turn s) = not (is_left s.phase)
ends_left deactivate = true
ends_left _ = false
