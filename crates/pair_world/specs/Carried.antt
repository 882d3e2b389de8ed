-- What a call gave, beside what the definition says.
use Rattle.std.specs.Prelude.{◌≡◌, ◌≢◌, ◌<◌, ◌≤◌, true, false, ℕ, List, length, slice_get, Option, Some, None, Result, MatchResult}
use Rattle.set_events.specs.declared.config.SetConfig.{SetConfig}
use Rattle.set_events.specs.declared.event.Event.{Event}
use Rattle.set_model.specs.History.{LinkSet, new_set}
use Rattle.pair_steps.specs.Lines.{without}
use Rattle.set_events.specs.declared.fault.SetFault.{SetFault}
use Rattle.set_events.specs.declared.fault.SetFault.TheVariants.{NoMemory as SetNoMemory, Exhausted as SetExhausted}
use Rattle.l2_units.specs.declared.unit.Unit.{Unit as SignalUnit}
use Rattle.pair_world.specs.declared.fault.PlayFault.{PlayFault}
use Rattle.pair_world.specs.declared.fault.PlayFault.TheVariants.{NoMemory, Impossible, Exhausted, Links, Profile}
use Rattle.pair_steps.specs.declared.step.End.{End}
use Rattle.pair_steps.specs.declared.step.Shown.{Shown}
use Rattle.pair_steps.specs.declared.step.Shown.TheVariants.{Answered}
use Rattle.pair_steps.specs.declared.step.Step.{Step}
use Rattle.pair_model.specs.Run.{Played, leads_to, stops_at, is_full_at, played_from, begun}
use Rattle.pair_model.specs.World.{World, Outcome, world_of, shows, impossible, exhausted, is_full, answer_to, after, line_to, with_line}

abbrev pub PlayFaultOf : SetFault → PlayFault → Type 0
PlayFaultOf SetNoMemory fault = fault ≡ NoMemory
PlayFaultOf SetExhausted fault = fault ≡ Exhausted

abbrev pub fault_number : PlayFault → ℕ
fault_number NoMemory = 1
fault_number (Impossible place) = 2
fault_number Exhausted = 3
fault_number Links = 4
fault_number Profile = 5

-- the two ends have as many links, and one profile
pub record ArePair (a b : SetConfig) : Type 0 where
  pub links : a.links ≡ b.links
  pub profiles : a.profile ≡ b.profile

-- a world of these configurations: both ends are new, and nothing is under way
pub record IsBegun (a b : SetConfig) (world : World) : Type 0 where
  pub pair : ArePair a b
  pub world_is : world ≡ world_of (new_set a) (new_set b)

-- why there is none: the links are tested first, then the profiles
abbrev pub FailsToBegin : PlayFault → SetConfig → SetConfig → Type 0
FailsToBegin NoMemory a b = ArePair a b
FailsToBegin (Impossible place) a b = ⊥
FailsToBegin Exhausted a b = ⊥
FailsToBegin Links a b = a.links ≢ b.links
FailsToBegin Profile a b = (a.links ≡ b.links) × (a.profile ≢ b.profile)

-- a step that can be done: it isn't impossible, and no history is full
abbrev pub CanBeDone : Outcome → Type 0
CanBeDone (shows shown w) = Unit {0}
CanBeDone impossible = ⊥
CanBeDone exhausted = ⊥

-- the fault of a step says what the definition says; memory is wanted only of a step that can be done
abbrev pub Fails : PlayFault → Outcome → Type 0
Fails NoMemory outcome = CanBeDone outcome
Fails (Impossible place) outcome = (place ≡ 0) × (outcome ≡ impossible)
Fails Exhausted outcome = outcome ≡ exhausted
Fails Links outcome = ⊥
Fails Profile outcome = ⊥

-- what is shown then, and the world
abbrev pub IsCarriedOut : Result (Unit {0}) PlayFault → Outcome → Shown → World → Type 0
IsCarriedOut result outcome shown new =
    MatchResult result (λ done. outcome ≡ shows shown new) (λ fault. Fails fault outcome)

-- a step that can't be done leaves the world as it was
abbrev pub StaysIfImpossible : Result (Unit {0}) PlayFault → World → World → Type 0
StaysIfImpossible result old new =
    MatchResult result (λ done. Unit {0}) (λ fault. (place : ℕ) → fault ≡ Impossible place → new ≡ old)

-- the step's world, and what it shows
abbrev pub IsStepped : Result (World × Shown) PlayFault → Outcome → Type 0
IsStepped result outcome =
    MatchResult result (λ after. outcome ≡ shows after.1 after.0) (λ fault. Fails fault outcome)

-- the fault of the step at a place
abbrev pub fault_at : ℕ → PlayFault → PlayFault
fault_at place NoMemory = NoMemory
fault_at place (Impossible step) = Impossible place
fault_at place Exhausted = Exhausted
fault_at place Links = Links
fault_at place Profile = Profile

-- the first step can be done, or there is none
abbrev pub BeginsWell : Played → Type 0
BeginsWell (leads_to w) = Unit {0}
BeginsWell (stops_at place) = 0 < place
BeginsWell (is_full_at place) = 0 < place

-- what steps led to, one after another, says what the definition says; where memory is wanted, each step up to then can
-- be done, the first at least
abbrev pub FailsAlong : PlayFault → Played → Type 0
FailsAlong NoMemory outcome = BeginsWell outcome
FailsAlong (Impossible place) outcome = outcome ≡ stops_at place
FailsAlong Exhausted outcome = (place : ℕ) × (outcome ≡ is_full_at place)
FailsAlong Links outcome = ⊥
FailsAlong Profile outcome = ⊥

abbrev pub AreCarriedOut : Result (Unit {0}) PlayFault → Played → World → Type 0
AreCarriedOut result outcome new =
    MatchResult result (λ done. outcome ≡ leads_to new) (λ fault. FailsAlong fault outcome)

-- THE RUN from two configurations
abbrev pub played : SetConfig → SetConfig → List Step → Played
played a b steps = played_from 0 (begun a b).world steps

pub record LeadsTo (a b : SetConfig) (steps : List Step) (world : World) : Type 0 where
  pub pair : ArePair a b
  pub world_is : played a b steps ≡ leads_to world

-- why it leads to no world: the links are tested first, then the profiles, then step by step
abbrev pub FailsToPlay : PlayFault → SetConfig → SetConfig → List Step → Type 0
FailsToPlay NoMemory a b steps = ArePair a b
FailsToPlay (Impossible place) a b steps = ArePair a b × (played a b steps ≡ stops_at place)
FailsToPlay Exhausted a b steps = ArePair a b × ((place : ℕ) × (played a b steps ≡ is_full_at place))
FailsToPlay Links a b steps = a.links ≢ b.links
FailsToPlay Profile a b steps = (a.links ≡ b.links) × (a.profile ≢ b.profile)

abbrev pub IsPlayed : Result World PlayFault → SetConfig → SetConfig → List Step → Type 0
IsPlayed result a b steps =
    MatchResult result (λ world. LeadsTo a b steps world) (λ fault. FailsToPlay fault a b steps)

-- an event at one set: whether its history is full is tested before any memory is wanted
abbrev pub FailsAt : SetFault → LinkSet → Type 0
FailsAt SetNoMemory set = is_full set ≡ false
FailsAt SetExhausted set = is_full set ≡ true

pub record IsAnswered (old : LinkSet) (event : Event) (shown : Shown) (new : LinkSet) : Type 0 where
  pub room : is_full old ≡ false
  pub shown_is : shown ≡ Answered (answer_to old event)
  pub set_is : new ≡ after old event

abbrev pub Applies : Result (Unit {0}) SetFault → LinkSet → Event → Shown → LinkSet → Type 0
Applies result old event shown new =
    MatchResult result (λ done. IsAnswered old event shown new) (λ fault. FailsAt fault old)

-- a unit that is taken out of the line to an end on a link
pub record LeavesTo (old : World) (end : End) (link place : ℕ) (unit : SignalUnit) (new : World) : Type 0 where
  pub there : slice_get (line_to old end link) place ≡ Some unit
  pub rest_is : new ≡ with_line old end link (without place (line_to old end link))

abbrev pub IsTakenFrom : Option SignalUnit → World → End → ℕ → ℕ → World → Type 0
IsTakenFrom None old end link place new = (length (line_to old end link) ≤ place) × (new ≡ old)
IsTakenFrom (Some unit) old end link place new = LeavesTo old end link place unit new
