-- WHAT USERS TAKE: Take hands out what was delivered for them, the oldest first (own).
use Rattle.std.specs.Prelude.{◌≡◌, ◌<◌, ℕ, ◌==◌, List, [], ◌∷◌, ◌++◌, filter, length, take}
use Rattle.set_events.specs.declared.answer.Answer.{Answer}
use Rattle.set_events.specs.declared.answer.Answer.TheVariants.{Taken, Heard}
use Rattle.set_events.specs.declared.answer.Took.{Took}
use Rattle.set_events.specs.declared.answer.Took.TheVariants.{Message as TookMessage}
use Rattle.set_events.specs.declared.config.SetConfig.{SetConfig}
use Rattle.set_events.specs.declared.event.Event.{Event}
use Rattle.set_events.specs.declared.event.Event.TheVariants.{Heard as HeardEvent}
use Rattle.set_events.specs.declared.history.Entry.{Entry}
use Rattle.set_model.specs.History.{LinkSet, IsLegal, after}
use Rattle.set_model.specs.Rows.{stream_of}
use Rattle.set_model.specs.State.{State}
use Rattle.pair_steps.specs.declared.step.Step.{Step}
use Rattle.pair_model.specs.Promises.{IsHonestRun, IsSoundRun, IsQuietRun}
use Rattle.pair_model.specs.Run.{Message, Past, Stage, begun, bodies, body_in, HoldsAlong}
use Rattle.pair_streams.specs.Streams.{IsPart}

-- ONE SET. The body that an answer hands out to a user
abbrev pub handed_by : Answer → List (List ℕ)
handed_by (Taken body) = body.items ∷ []
handed_by _ = []

-- the body that was accepted for users: a unit was heard, and the answer says that it brought a message
abbrev pub message_of : Took → List ℕ → List (List ℕ)
message_of TookMessage body = body ∷ []
message_of _ body = []

abbrev pub delivered_by : Answer → Event → List (List ℕ)
delivered_by (Heard report) (HeardEvent link unit) = message_of report.took (body_in unit)
delivered_by _ _ = []

-- and all of them in a history, in order
abbrev pub handed_in : List Entry → List (List ℕ)
handed_in [] = []
handed_in (entry ∷ entries) = handed_by entry.answer ++ handed_in entries

abbrev pub delivered_in : List Entry → List (List ℕ)
delivered_in [] = []
delivered_in (entry ∷ entries) = delivered_by entry.answer entry.event ++ delivered_in entries

-- LAW: what users took of a set, and then what its inbox holds, is what it held at first and then what was delivered, in
-- order
abbrev pub EveryHistoryHandsOutInOrder : Type 0
EveryHistoryHandsOutInOrder =
    (opening : State) (entries : List Entry) → IsLegal opening entries
    → handed_in entries ++ (after opening entries).inbox ≡ opening.inbox ++ delivered_in entries

-- TWO ENDS. Those of a stream
abbrev pub bodies_of : ℕ → List (List ℕ) → List (List ℕ)
bodies_of stream some = filter (λ body. stream == stream_of body) some

abbrev pub taken_of : ℕ → LinkSet → List (List ℕ)
taken_of stream set = bodies_of stream (handed_in set.history)

-- what the end's users took of the stream, and then what waits for them, is what they got
abbrev pub TakesAll : ℕ → Past → LinkSet → Type 0
TakesAll stream past set = taken_of stream set ++ bodies_of stream set.state.inbox ≡ bodies (past.got stream)

-- in both directions
abbrev pub UsersTakeAll : Stage → Type 0
UsersTakeAll g = (stream : ℕ) → TakesAll stream g.a g.world.a × TakesAll stream g.b g.world.b

-- what the end's users took of the stream is the first of what was offered at the other
abbrev pub TakesFirst : ℕ → Past → LinkSet → Type 0
TakesFirst stream far set = taken_of stream set ≡ take (length (taken_of stream set)) (bodies (far.offered stream))

-- in both directions
abbrev pub UsersTakeFirst : Stage → Type 0
UsersTakeFirst g = (stream : ℕ) → stream < 16 → TakesFirst stream g.b g.world.a × TakesFirst stream g.a g.world.b

-- in emergencies it's some of what was offered, in its order
abbrev pub TakesPart : ℕ → Past → LinkSet → Type 0
TakesPart stream far set =
    (some : List Message) × (bodies some ≡ taken_of stream set) × IsPart some (far.offered stream)

abbrev pub UsersTakePart : Stage → Type 0
UsersTakePart g = (stream : ℕ) → stream < 16 → TakesPart stream g.b g.world.a × TakesPart stream g.a g.world.b

-- LAWS
abbrev pub EveryHonestRunHandsOutAll : Type 0
EveryHonestRunHandsOutAll =
    (a b : SetConfig) (steps : List Step) → IsHonestRun a b steps
    → HoldsAlong UsersTakeAll (begun a b) steps

abbrev pub EverySoundRunHandsOutInOrder : Type 0
EverySoundRunHandsOutInOrder =
    (a b : SetConfig) (steps : List Step) → IsSoundRun a b steps
    → HoldsAlong UsersTakeFirst (begun a b) steps

abbrev pub EveryQuietRunHandsOutAPart : Type 0
EveryQuietRunHandsOutAPart =
    (a b : SetConfig) (steps : List Step) → IsQuietRun a b steps
    → HoldsAlong UsersTakePart (begun a b) steps
