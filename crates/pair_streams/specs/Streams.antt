-- WHAT BECOMES OF A STREAM between two ends, in every sound run: nothing is lost, doubled or put out of order.
use Rattle.std.specs.Prelude.{◌≡◌, ◌<◌, ◌≤◌, ℕ, ◌+◌, ◌==◌, Bool, true, not, ◌&&◌, List, [], ◌∷◌, ◌⊎◌, filter, length, take, slice_get, Some}
use Rattle.set_events.specs.declared.answer.Fate.TheVariants.{Acked, Discarded}
use Rattle.set_events.specs.declared.answer.DiscardCause.TheVariants.{Emergency}
use Rattle.set_events.specs.declared.config.SetConfig.{SetConfig}
use Rattle.set_model.specs.Rows.{stream_of, place, body_at, owner_at}
use Rattle.set_model.specs.State.{LinkState, State}
use Rattle.pair_steps.specs.declared.step.Step.{Step}
use Rattle.pair_model.specs.Promises.{IsSoundRun, IsQuietRun}
use Rattle.pair_model.specs.Run.{Message, Past, Stage, begun, HoldsAlong, HoldsAtEach}
use Rattle.pair_changeover.specs.Diverted.{OrdersTell}
use Rattle.pair_changeover.specs.Pending.{pending, aside, kept_back}

-- a user's message of the stream, and all such in a list
abbrev pub is_of : ℕ → Message → Bool
is_of stream message = message.users && (stream_of message.body == stream)

abbrev pub those_of : ℕ → List Message → List Message
those_of stream messages = filter (is_of stream) messages

abbrev pub IsIn : Message → List Message → Type 0
IsIn message messages = (at : ℕ) × (slice_get messages at ≡ Some message)

-- AN IN-ORDER PART of a list: each stands there, behind the one before
abbrev pub IsPart : List Message → List Message → Type 0
IsPart [] all = Unit {0}
IsPart (message ∷ part) [] = ⊥
IsPart (message ∷ part) (first ∷ rest) = ((message ≡ first) × IsPart part rest) ⊎ IsPart (message ∷ part) rest

-- NUMBERS THAT RISE, from this one on: none comes twice
abbrev pub RiseFrom : ℕ → List Message → Type 0
RiseFrom least [] = Unit {0}
RiseFrom least (message ∷ rest) = (least ≤ message.number) × RiseFrom (message.number + 1) rest

-- ONE STREAM, from an end to the far end
pub record Arrives (stream : ℕ) (near far : Past) (s f : State) : Type 0 where
  -- the far end's users got the first of what was offered here, numbers and octets
  pub prefix : far.got stream ≡ take (length (far.got stream)) (near.offered stream)
  -- no number among them comes twice
  pub once : RiseFrom 0 (far.got stream)
  -- each message that is acknowledged here is among it
  pub acked : (link : ℕ) (message : Message) → is_of stream message ≡ true
      → place message.number s.rows ≡ Some (Acked link) → body_at message.number s.rows ≡ Some message.body
      → owner_at message.number s.rows ≡ Some message.users → IsIn message (far.got stream)
  -- and where nothing of the stream is pending, parked or waits for a changeback, it's all
  pub all : ((link : ℕ) → those_of stream (pending link s f) ≡ []) → those_of stream (aside s) ≡ []
      → those_of stream (kept_back s) ≡ [] → far.got stream ≡ near.offered stream

-- EACH STREAM, in both directions
abbrev pub StreamsArrive : Stage → Type 0
StreamsArrive g =
    (stream : ℕ) → stream < 16
    → Arrives stream g.a g.b g.world.a.state g.world.b.state × Arrives stream g.b g.a g.world.b.state g.world.a.state

-- IN EMERGENCIES some may be given up: of one stream, from an end to the far end
pub record ArrivesInPart (stream : ℕ) (near far : Past) (s f : State) : Type 0 where
  -- the far end's users got some of what was offered here, in its order, numbers and octets
  pub in_order : IsPart (far.got stream) (near.offered stream)
  -- no number among them comes twice
  pub once : RiseFrom 0 (far.got stream)
  -- each message that is acknowledged here is among it
  pub acked : (link : ℕ) (message : Message) → is_of stream message ≡ true
      → place message.number s.rows ≡ Some (Acked link) → body_at message.number s.rows ≡ Some message.body
      → owner_at message.number s.rows ≡ Some message.users → IsIn message (far.got stream)
  -- and where nothing of the stream is pending, parked or waits for a changeback, each that isn't was discarded in an
  -- emergency
  pub all : ((link : ℕ) → those_of stream (pending link s f) ≡ []) → those_of stream (aside s) ≡ []
      → those_of stream (kept_back s) ≡ [] → (message : Message) → IsIn message (near.offered stream)
      → IsIn message (far.got stream) ⊎ (place message.number s.rows ≡ Some (Discarded Emergency))

abbrev pub PartsArrive : Stage → Type 0
PartsArrive g =
    (stream : ℕ) → stream < 16
    → ArrivesInPart stream g.a g.b g.world.a.state g.world.b.state
    × ArrivesInPart stream g.b g.a g.world.b.state g.world.a.state

-- LAW
abbrev pub EverySoundRunKeepsStreams : Type 0
EverySoundRunKeepsStreams =
    (a b : SetConfig) (steps : List Step) → IsSoundRun a b steps
    → HoldsAlong StreamsArrive (begun a b) steps

abbrev pub EveryQuietRunKeepsOrder : Type 0
EveryQuietRunKeepsOrder =
    (a b : SetConfig) (steps : List Step) → IsQuietRun a b steps
    → HoldsAlong PartsArrive (begun a b) steps

-- in emergencies too the number of an order that is heard about a link that hasn't settled isn't unreasonable: it's that
-- of the last message that its end accepted there
abbrev pub NumbersTell : Stage → List Step → Type 0
NumbersTell g steps = HoldsAtEach (λ before step shown after. OrdersTell before step shown) g steps

abbrev pub EveryQuietRunTellsNumbers : Type 0
EveryQuietRunTellsNumbers =
    (a b : SetConfig) (steps : List Step) → IsQuietRun a b steps
    → NumbersTell (begun a b) steps

-- and of each link, settled or not, what counts as acknowledged was accepted
abbrev pub AreTaken : State → Past → Type 0
AreTaken s far =
    (link : ℕ) (state : LinkState) → slice_get s.links link ≡ Some state → state.acked ≤ length (far.taken link)

abbrev pub AckedAreTaken : Stage → Type 0
AckedAreTaken g = AreTaken g.world.a.state g.b × AreTaken g.world.b.state g.a

abbrev pub EveryQuietRunAcksTheTaken : Type 0
EveryQuietRunAcksTheTaken =
    (a b : SetConfig) (steps : List Step) → IsQuietRun a b steps
    → HoldsAlong AckedAreTaken (begun a b) steps
