-- A RUN OF TWO ENDS: a list of steps, carried out one after another, and what has passed between the ends by then.
use Rattle.std.specs.Prelude.{ℕ, Bool, not, suc, ◌==◌, List, [], ◌∷◌, ◌++◌, length, map, drop, slice_get, Option, Some, if◌then◌else◌}
use Rattle.l2_units.specs.declared.unit.Unit.{Unit as SignalUnit}
use Rattle.l2_units.specs.declared.unit.Unit.TheVariants.{Fisu, Lssu, Msu}
use Rattle.set_events.specs.declared.answer.Answer.TheVariants.{Accepted, Heard}
use Rattle.set_events.specs.declared.answer.Took.{Took}
use Rattle.set_events.specs.declared.answer.Took.TheVariants.{Nothing as NothingTaken, Message as TookMessage}
use Rattle.set_events.specs.declared.config.SetConfig.{SetConfig}
use Rattle.set_events.specs.declared.event.Event.{Event}
use Rattle.set_events.specs.declared.event.Event.TheVariants.{Offer}
use Rattle.set_model.specs.History.{new_set}
use Rattle.set_model.specs.Rows.{Row, is_managements, unack, stream_of}
use Rattle.set_model.specs.State.{State}
use Rattle.pair_steps.specs.declared.step.End.{End}
use Rattle.pair_steps.specs.declared.step.End.TheVariants.{A, B}
use Rattle.pair_steps.specs.declared.step.Step.{Step}
use Rattle.pair_steps.specs.declared.step.Step.TheVariants.{Act, Emit, Arrive, Lose, Together, Inject}
use Rattle.pair_steps.specs.declared.step.Shown.{Shown}
use Rattle.pair_steps.specs.declared.step.Shown.TheVariants.{Answered}
use Rattle.pair_model.specs.World.{World, Outcome, shows, impossible, exhausted, world_of, at_end, other, line_to, carried_out}

-- WHAT THE STEPS LEAD TO, from a world and with the place of the first step.

-- a world; or the first place where a step can't be done, or that a history is full at a step
pub data Played : Type 0 where
  leads_to : World → Played
  stops_at : ℕ → Played
  is_full_at : ℕ → Played

abbrev pub goes_on : ℕ → Outcome → (World → Played) → Played
goes_on place (shows shown w) next = next w
goes_on place impossible next = stops_at place
goes_on place exhausted next = is_full_at place

abbrev pub played_from : ℕ → World → List Step → Played
played_from place w [] = leads_to w
played_from place w (step ∷ steps) = goes_on place (carried_out w step) (λ new. played_from (suc place) new steps)

-- THE PAST of an end. A message has the number under which it was accepted there, its octets, and whose it is.
pub record Message : Type 0 where
  pub number : ℕ
  pub body : List ℕ
  pub users : Bool

abbrev pub messages : List Row → List Message
messages rows = map (λ row. record { number = row.number; body = row.body; users = row.users }) rows

abbrev pub bodies : List Message → List (List ℕ)
bodies passed = map (λ message. message.body) passed

pub record Past : Type 0 where
  -- by links, since the link last came up: the messages first sent on it, and the bodies accepted on it, both in order
  pub sent : ℕ → List Message
  pub taken : ℕ → List (List ℕ)
  -- by streams: the messages that users offered here, and those of the far end's users that were accepted here, in order
  pub offered : ℕ → List Message
  pub got : ℕ → List Message

abbrev pub no_past : Past
no_past = record { sent = λ link. []; taken = λ link. []; offered = λ stream. []; got = λ stream. [] }

-- more at one of the numbers
abbrev pub added_at : {X : Type 0} → ℕ → List X → (ℕ → List X) → ℕ → List X
added_at number more of_number k = if k == number then of_number k ++ more else of_number k

-- nothing at one of the numbers
abbrev pub cleared_at : {X : Type 0} → ℕ → (ℕ → List X) → ℕ → List X
cleared_at number of_number k = if k == number then [] else of_number k

-- a message whose octets tell whose it is
abbrev pub message_by : ℕ → List ℕ → Message
message_by number body = record { number = number; body = body; users = not (is_managements body) }

-- OFFERED: the message that this answer accepts
abbrev pub accepted_in : List ℕ → Shown → List Message
accepted_in body (Answered (Accepted number)) = message_by number body ∷ []
accepted_in body _ = []

abbrev pub past_asked : Event → Shown → Past → Past
past_asked (Offer body) shown past =
    record past { offered = added_at (stream_of body) (accepted_in body shown) past.offered }
past_asked _ shown past = past

-- SENT: what the link's unacknowledged messages gained
abbrev pub first_sent : ℕ → State → State → List Message
first_sent link old new = messages (drop (length (unack link old.rows)) (unack link new.rows))

abbrev pub past_sent : ℕ → State → State → Past → Past
past_sent link old new past = record past { sent = added_at link (first_sent link old new) past.sent }

-- TAKEN: the body that was accepted; GOT: where it's a user's, with the number of the message at its place among those sent
abbrev pub body_in : SignalUnit → List ℕ
body_in (Fisu head) = []
body_in (Lssu head status) = []
body_in (Msu head body) = body.items

abbrev pub taken_by : Took → List ℕ → List (List ℕ)
taken_by NothingTaken body = []
taken_by _ body = body ∷ []

abbrev pub got_by : Took → Option Message → List ℕ → List Message
got_by TookMessage (Some message) body = message_by message.number body ∷ []
got_by _ message body = []

abbrev pub past_heard : ℕ → SignalUnit → List Message → Shown → Past → Past
past_heard link unit sent (Answered (Heard report)) past =
    let body = body_in unit in
    let message = slice_get sent (length (past.taken link)) in
    record past {
      taken = added_at link (taken_by report.took body) past.taken;
      got = added_at (stream_of body) (got_by report.took message body) past.got;
    }
past_heard link unit sent _ past = past

abbrev pub past_arrived : ℕ → List SignalUnit → List Message → Shown → Past → Past
past_arrived link [] sent shown past = past
past_arrived link (unit ∷ line) sent shown past = past_heard link unit sent shown past

-- a link that comes up begins a new life
abbrev pub past_risen : ℕ → Past → Past
past_risen link past = record past { sent = cleared_at link past.sent; taken = cleared_at link past.taken }

-- A STAGE of a run: the world, and the past of each end.
pub record Stage : Type 0 where
  pub world : World
  pub a : Past
  pub b : Past

abbrev pub begun : SetConfig → SetConfig → Stage
begun a b = record { world = world_of (new_set a) (new_set b); a = no_past; b = no_past }

abbrev pub past_at : Stage → End → Past
past_at g A = g.a
past_at g B = g.b

-- the past of an end goes on so
abbrev pub with_past : End → Past → World → Stage → Stage
with_past A past new g = record { world = new; a = past; b = g.b }
with_past B past new g = record { world = new; a = g.a; b = past }

-- the stage when the step showed this, and left this world
abbrev pub passed : Stage → Step → Shown → World → Stage
passed g (Act end event) shown new = with_past end (past_asked event shown (past_at g end)) new g
passed g (Emit end link) shown new =
    with_past end (past_sent link (at_end g.world end).state (at_end new end).state (past_at g end)) new g
passed g (Arrive end link) shown new =
    let sent = (past_at g (other end)).sent link in
    with_past end (past_arrived link (line_to g.world end link) sent shown (past_at g end)) new g
passed g (Lose end link place) shown new = record g { world = new }
passed g (Together link) shown new = record { world = new; a = past_risen link g.a; b = past_risen link g.b }
passed g (Inject end link unit) shown new =
    with_past end (past_heard link unit ((past_at g (other end)).sent link) shown (past_at g end)) new g

-- WHAT HOLDS ALL ALONG A RUN: at its first stage, and where the first step can be done, all along the rest. So it holds
-- after every prefix of the steps.
abbrev pub OnShows : Outcome → (Shown → World → Type 0) → Type 0
OnShows (shows shown w) P = P shown w
OnShows impossible P = Unit {0}
OnShows exhausted P = Unit {0}

abbrev pub HoldsAlong : (Stage → Type 0) → Stage → List Step → Type 0
HoldsAlong P g [] = P g
HoldsAlong P g (step ∷ steps) =
    P g × OnShows (carried_out g.world step) (λ shown new. HoldsAlong P (passed g step shown new) steps)

-- of each step that was done: the stage before it, what it showed, and the stage after it
abbrev pub HoldsAtEach : (Stage → Step → Shown → Stage → Type 0) → Stage → List Step → Type 0
HoldsAtEach P g [] = Unit {0}
HoldsAtEach P g (step ∷ steps) =
    OnShows (carried_out g.world step) (λ shown new.
    P g step shown (passed g step shown new) × HoldsAtEach P (passed g step shown new) steps)
