-- WHAT A SET OF LINKS HOLDS. Read this file first, after the rows.
use Rattle.std.specs.Prelude.{ℕ, Bool, true, false, ◌+◌, ◌%◌, List, [], length, map, Option, None, Some, slice_get, slice_set, replicate, if◌then◌else◌, option_map}
pub use Rattle.l2_units.specs.declared.profile.Profile.{Profile}
use Rattle.l2_window.specs.Window.{WindowState, fsn_count, fsn_before_first}
use Rattle.set_events.specs.declared.config.SetConfig.{SetConfig}
-- the messages that left the rows, since nothing more can become of them: those of users by how they ended, and orders
pub use Rattle.set_events.specs.declared.finished.Finished.{Finished as FinishedCounts}
use Rattle.set_model.specs.Rows.{Fate, Waiting, Held, Parked, Back, Row, unack, wait, numbers}
pub use Rattle.set_route.specs.declared.place.Place.{Place}
pub use Rattle.set_route.specs.declared.place.Place.TheVariants.{On, Changing, Nowhere}
use Rattle.set_route.specs.Routing.{Routing, new_routing}
use Rattle.set_route.specs.Target.{target_of}
use Rattle.set_model.specs.declared.numbered.Numbered.{Numbered}
pub use Rattle.set_model.specs.declared.phase.Phase.{Phase}
pub use Rattle.set_model.specs.declared.phase.Phase.TheVariants.{Up, Down, Settled}
use Rattle.set_model.specs.Control.{Method, Control, start_of}
pub use Rattle.set_route.specs.declared.place.Code.TheVariants.{Free, Asked, Spent}
pub use Rattle.set_route.specs.declared.place.Code.{Code}

-- a link: whether it is in service, left and unanswered, or settled, which it is at first; and of its present life,
-- or its last one
pub record LinkState : Type 0 where
  pub phase : Phase
  -- in that life it was tested, or needs no test
  pub tested : Bool
  -- how many numbers its messages have
  pub profile : Profile
  -- that life ended without the FSN last accepted being known: emergency changeover (Q.704 5.6)
  pub blind : Bool
  -- how that life ended was told: an order settled the link, or a late one was answered
  pub answered : Bool
  -- how many of its messages were acknowledged, and how many of the far end's bodies were accepted, as whole numbers
  pub acked : ℕ
  pub accepted : ℕ
  -- the error control: indicator bits, cursor or place in the cycle, and the memory of faults
  pub control : Control
  -- (own) and of all its lives: how many changeover orders about it were heard while it was settled, modulo 2^32. Each
  -- tells that the far end has left a life of which this end had no part.
  pub late : ℕ
  -- the number of the order that was queued when it was left last
  pub order : ℕ

-- what a set is opened with: its own number; how many links; how their messages are kept safe; the SIO and the point
-- codes of its orders
pub record Settings : Type 0 where
  pub set : ℕ
  pub links : ℕ
  pub method : Method
  pub profile : Profile
  pub sio : ℕ
  pub dpc : ℕ
  pub opc : ℕ

abbrev pub settings_of : SetConfig → Settings
settings_of config = record {
  set = config.set;
  links = config.links;
  method = config.method;
  profile = config.profile;
  sio = config.sio;
  dpc = config.dpc;
  opc = config.opc;
}

abbrev pub none_finished : FinishedCounts
none_finished = record { acked = 0; emergency = 0; unreasonable = 0; no_answer = 0; orders = 0 }

abbrev pub all_finished : FinishedCounts → ℕ
all_finished f = f.acked + f.emergency + f.unreasonable + f.no_answer + f.orders

-- what the set was opened with; the rows in the order of queueing; those that left them; the links, by their numbers;
-- where the streams run; the messages heard for users, oldest first
pub record State : Type 0 where
  pub settings : Settings
  pub rows : List Row
  pub finished : FinishedCounts
  pub links : List LinkState
  pub routing : Routing
  pub inbox : List (List ℕ)

-- a link that never was up
abbrev pub new_link : Profile → Method → LinkState
new_link profile method = record {
  phase = Settled;
  tested = false;
  profile = profile;
  blind = false;
  answered = false;
  acked = 0;
  accepted = 0;
  control = start_of method;
  late = 0;
  order = 0;
}

-- a set that nothing was asked of
abbrev pub opened_with : Settings → State
opened_with settings = record {
  settings = settings;
  rows = [];
  finished = none_finished;
  links = replicate settings.links (new_link settings.profile settings.method);
  routing = new_routing settings.links;
  inbox = [];
}

abbrev pub new_state : SetConfig → State
new_state config = opened_with (settings_of config)

-- how many numbers were given out: each message has a row, or left them and is counted. The next number is this one.
abbrev pub given : State → ℕ
given s = all_finished s.finished + length s.rows

abbrev pub link_count : State → ℕ
link_count s = length s.links

-- the link changes, and nothing else does
abbrev pub with_link : ℕ → LinkState → State → State
with_link number link s = record s { links = slice_set s.links number link }

abbrev pub has_phase_up : Phase → Bool
has_phase_up Up = true
has_phase_up _ = false

abbrev pub has_phase_settled : Phase → Bool
has_phase_settled Settled = true
has_phase_settled _ = false

abbrev pub link_is_up : Option LinkState → Bool
link_is_up None = false
link_is_up (Some link) = has_phase_up link.phase

abbrev pub link_is_settled : Option LinkState → Bool
link_is_settled None = false
link_is_settled (Some link) = has_phase_settled link.phase

abbrev pub is_up : ℕ → State → Bool
is_up number s = link_is_up (slice_get s.links number)

-- a link that is in service and tested is open for messages
abbrev pub opens_in : Bool → Phase → Bool
opens_in tested Up = tested
opens_in tested _ = false

abbrev pub open_link : LinkState → Bool
open_link link = opens_in link.tested link.phase

abbrev pub link_is_open : Option LinkState → Bool
link_is_open None = false
link_is_open (Some link) = open_link link

abbrev pub is_open : ℕ → State → Bool
is_open number s = link_is_open (slice_get s.links number)

-- whether streams can run on a link: it is open, or was left and isn't settled
abbrev pub carries_in : Bool → Phase → Bool
carries_in tested Up = tested
carries_in tested Down = true
carries_in tested Settled = false

abbrev pub carries : LinkState → Bool
carries link = carries_in link.tested link.phase

abbrev pub is_settled : ℕ → State → Bool
is_settled number s = link_is_settled (slice_get s.links number)

-- how many late orders were heard about the link; none about one that the set hasn't
abbrev pub late_in : Option LinkState → ℕ
late_in None = 0
late_in (Some link) = link.late

abbrev pub late_at : ℕ → State → ℕ
late_at number s = late_in (slice_get s.links number)

-- where a new message goes whose stream runs there: for a link that is open it waits, on one that was left it's held, on
-- its way back it waits for the acknowledgement, nowhere it's parked
abbrev pub fate_at : Place → State → Fate
fate_at (On link) s = if is_open link s then Waiting link else Held link
fate_at (Changing to code via) s = Back code
fate_at Nowhere s = Parked

-- TARGET: the lowest-numbered link that is open (own)
abbrev pub target : List LinkState → Option ℕ
target links = target_of (map (λ link. open_link link) links)

-- The window of a link, as its rows give it: the message at place i of the unacknowledged ones has FSN acked + i
-- modulo 128 (Q.703 2.2; wide: 4,096), so the FSN before it, last acknowledged, is acked - 1.
abbrev pub window_of : ℕ → LinkState → List Row → WindowState
window_of number link rows = record {
  profile = link.profile;
  last = (link.acked + fsn_before_first link.profile) % fsn_count link.profile;
  unacked = numbers (unack number rows);
  unsent = numbers (wait number rows);
  room = 0;
}

-- the FSN last accepted in the link's present life, or in its last one; 127 (wide: 4,095) if it had none (Q.704 5.4.2)
abbrev pub last_accepted : LinkState → ℕ
last_accepted link = (link.accepted + fsn_before_first link.profile) % fsn_count link.profile

-- The message at this place of a link's unacknowledged ones: its number, and its FSN (Q.703 2.2).
abbrev pub unacked_of : Option LinkState → ℕ → ℕ → List Row → Option Numbered
unacked_of None number place rows = None
unacked_of (Some link) number place rows = option_map
    (λ row. record { number = row.number; fsn = (link.acked + place) % fsn_count link.profile })
    (slice_get (unack number rows) place)

abbrev pub unacked_in : State → ℕ → ℕ → Option Numbered
unacked_in s number place = unacked_of (slice_get s.links number) number place s.rows
