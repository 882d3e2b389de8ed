-- THE PARTS OF A SET as contracts see them.
use Rattle.std.specs.Prelude.{◌≡◌, ℕ, false, ◌<◌, ◌≤◌, List, length, Option, None, Some, slice_get}
pub use Rattle.set_model.specs.declared.phase.Phase.{Phase}
pub use Rattle.set_model.specs.declared.reached.Reached.{Reached}
pub use Rattle.set_model.specs.declared.reached.Reached.TheVariants.{Upto, Unknown, Unanswered, Unasked}
use Rattle.set_model.specs.Rows.{Fate, Waiting, Parked}
use Rattle.l2_units.specs.declared.profile.Profile.{Profile}
use Rattle.set_model.specs.State.{LinkState, State, open_link, settings_of}
use Rattle.set_model.specs.Step.{Answer, Took, Outcome}
use Rattle.set_model.specs.Changeover.{Obeyed}
pub use Rattle.set_changeover.specs.declared.link.Link.{Link}
pub use Rattle.set_changeover.specs.declared.parts.Parts.{Parts}
use Rattle.set_changeover.specs.Agreement.{Kept, StandsFor, Agrees}
use Rattle.l2_window.specs.Window.{fsn_count}
use Rattle.set_route.specs.Routing.{most_links}
pub use Rattle.set_model.specs.declared.phase.Phase.TheVariants.{Up, Down, Settled}

abbrev pub kept_of : {A : Type 0} → Parts A → Kept
kept_of parts = record {
  settings = settings_of parts.config;
  lists = parts.queues.lists;
  messages = parts.queues.messages;
  bodies = parts.bodies.items;
  finished = parts.finished;
  links = parts.links.items;
  routing = parts.routes;
  inbox = parts.inbox.items;
}

-- one link for each queue and each place of the routing, and 16 at most
pub record IsWhole {A : Type 0} (parts : Parts A) : Type 0 where
  pub as_many : length parts.queues.lists.links ≡ length parts.links.items
  pub routed : parts.routes.links ≡ length parts.links.items
  pub few : length parts.links.items ≤ most_links

-- a fact of the link of this number, if there is one
abbrev pub AtLink : ℕ → List Link → (Link → Type 0) → Type 0
AtLink number links fact = (link : Link) → slice_get links number ≡ Some link → fact link

-- a link of this number, in this phase
pub record IsHere (links : List Link) (n : ℕ) (phase : Phase) : Type 0 where
  pub link : Link
  pub there : slice_get links n ≡ Some link
  pub phase_is : link.phase ≡ phase
  pub known : n < length links

abbrev pub IsOut : Link → Type 0
IsOut link = open_link link ≡ false

-- the whole numbers are far from the end of their range
pub record IsCounted (bound : ℕ) (link : Link) : Type 0 where
  pub acked : link.acked < bound
  pub accepted : link.accepted < bound

abbrev pub AreCounted : ℕ → List Link → Type 0
AreCounted bound links = (number : ℕ) → AtLink number links (IsCounted bound)

-- where an order stands that never was sent: it waits, or is parked
abbrev pub unsent_at : Option Fate → Option Fate
unsent_at (Some (Waiting to)) = Some (Waiting to)
unsent_at (Some Parked) = Some Parked
unsent_at _ = None

-- an FSN has 7 bits, or 12
abbrev pub IsReach : Profile → Reached → Type 0
IsReach profile (Upto number) = number < fsn_count profile
IsReach profile Unknown = Unit {0}
IsReach profile Unanswered = Unit {0}
IsReach profile Unasked = Unit {0}

-- WHATEVER STATE the old parts stand for, the new ones stand for what becomes of it,
abbrev pub Becomes : {A : Type 0} → Parts A → Parts A → (State → State) → Type 0
Becomes old new change = (s : State) → StandsFor (kept_of old) s → StandsFor (kept_of new) (change s)

-- of a state that has this link
abbrev pub OfStates : {A : Type 0} → ℕ → Parts A → (LinkState → State → Type 0) → Type 0
OfStates number parts fact =
    (s : State) (link : LinkState) → slice_get s.links number ≡ Some link → StandsFor (kept_of parts) s → fact link s

abbrev pub BecomesAt : {A : Type 0} → ℕ → Parts A → Parts A → (LinkState → State → State) → Type 0
BecomesAt number old new change = OfStates number old (λ link s. StandsFor (kept_of new) (change link s))

-- or of one that the old parts agree with, and that has this link
abbrev pub AgreedBecomes : {A : Type 0} → ℕ → Parts A → Parts A → (LinkState → State → State) → Type 0
AgreedBecomes number old new change = (s : State) (link : LinkState) → slice_get s.links number ≡ Some link
    → Agrees (kept_of old) s → StandsFor (kept_of new) (change link s)

-- what is answered to a state, and kept then, are this outcome
pub record Gives {A : Type 0} (outcome : Outcome) (answer : Answer) (parts : Parts A) : Type 0 where
  pub answer_is : answer ≡ outcome.answer
  pub stands : StandsFor (kept_of parts) outcome.state

-- whatever state the old parts agree with
abbrev pub Answers : {A : Type 0} → Parts A → Parts A → Answer → (State → Outcome) → Type 0
Answers old new answer outcome = (s : State) → Agrees (kept_of old) s → Gives (outcome s) answer new

-- what became of an order, and is kept then, are this
pub record Obeys {A : Type 0} (obeyed : Obeyed) (took : Took) (parts : Parts A) : Type 0 where
  pub took_is : took ≡ obeyed.took
  pub stands : StandsFor (kept_of parts) obeyed.state

-- whatever state the old parts agree with
abbrev pub AllObey : {A : Type 0} → Parts A → Parts A → Took → (State → Obeyed) → Type 0
AllObey old new took obeyed = (s : State) → Agrees (kept_of old) s → Obeys (obeyed s) took new
