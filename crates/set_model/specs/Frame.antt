-- WHICH LINKS AN EVENT CONCERNS, what it leaves alone on all others, and what it does to the window of its own.
use Rattle.std.specs.Prelude.{◌≡◌, ℕ, false, List, [], ◌∷◌, ◌++◌, take, drop, slice_get, true, Some, ◌⊎◌}
use Rattle.l2_units.specs.Grammar.{head_of as header_in}
use Rattle.l2_units.specs.declared.profile.Profile.{Profile}
use Rattle.l2_window.specs.Window.{WindowState}
use Rattle.l3_orders.specs.declared.order.Order.{Order}
use Rattle.l3_orders.specs.declared.order.Order.TheVariants.{Cba}
use Rattle.l3_orders.specs.Grammar.{order_of, link_of}
use Rattle.set_route.specs.Routing.{place_of, home_of}
use Rattle.set_model.specs.Changeover.{order_at}
use Rattle.set_model.specs.Rows.{Waiting, Row, stream_of, unack, wait, held, octets_in, is_users}
use Rattle.set_model.specs.Control.{Choice, first, control_after, window_heard, control_heard}
use Rattle.set_model.specs.State.{On, LinkState, State, is_open, window_of}
use Rattle.set_model.specs.Step.{SignalUnit, Msu, Event, Offer, Next, Heard, UpEvent, DownEvent, DownBlind, NoAnswer, Timed, BackTimeout, choice_in, next, controlled, controls, is_msu, is_heard}

-- the unit brings an order about this link
abbrev pub BringsAbout : Profile → ℕ → SignalUnit → Type 0
BringsAbout profile number (Msu head body) = (order : Order) × (order_of profile body.items ≡ Some order) × (link_of order ≡ number)
BringsAbout profile number _ = ⊥

-- it brings the acknowledgement of a changeback to this link
abbrev pub BringsBackTo : Profile → ℕ → SignalUnit → Type 0
BringsBackTo profile number (Msu head body) =
    (link code : ℕ) × (order_of profile body.items ≡ Some (Cba link code)) × (home_of code ≡ number)
BringsBackTo profile number _ = ⊥

-- its own link, that of an order which its unit brings, the home of the code that it acknowledges, the one on which the
-- stream of an offered message runs, or for which the order waits that is taken back; Take, Find, Restore, Redeclare
-- and Test concern none
abbrev pub Concerns : Event → ℕ → State → Type 0
Concerns (Offer body) number s = place_of (stream_of body) s.routing ≡ On number
Concerns (Next link) number s = link ≡ number
Concerns (Heard link unit) number s = (link ≡ number) ⊎ (BringsAbout s.settings.profile number unit ⊎ BringsBackTo s.settings.profile number unit)
Concerns (UpEvent link) number s = link ≡ number
Concerns (DownEvent link) number s = link ≡ number
Concerns (DownBlind link) number s = link ≡ number
Concerns (NoAnswer link) number s = link ≡ number
Concerns (Timed link) number s = (link ≡ number) ⊎ (order_at link s ≡ Some (Waiting number))
Concerns (BackTimeout link) number s = link ≡ number
Concerns _ number s = ⊥

-- WHAT WAITS GAINS: the management's messages ahead of the users' that wait, and others behind all.
pub data Gains : List Row → List Row → Type 0 where
  behind : (old new more : List Row) → new ≡ old ++ more → Gains old new
  passed : (order : Row) (old new : List Row) → is_users order ≡ false → Gains old new → Gains (order ∷ old) (order ∷ new)
  ahead : (order : Row) (old new : List Row) → is_users order ≡ false → Gains old new → Gains old (order ∷ new)

-- nothing of the link changed, but that messages may have come: to wait for it if it's open, since it may be the target or
-- an alternative, and else last to be held for it, which turned back from a changeback
pub record LeavesAlone (number : ℕ) (old new : State) : Type 0 where
  pub settings_same : new.settings ≡ old.settings
  pub link_same : slice_get new.links number ≡ slice_get old.links number
  pub unack_same : unack number new.rows ≡ unack number old.rows
  pub waits : Gains (wait number old.rows) (wait number new.rows)
  pub none_waits : is_open number old ≡ false → wait number new.rows ≡ wait number old.rows
  pub later : List Row
  pub held_later : held number new.rows ≡ held number old.rows ++ later
  pub none_later : is_open number old ≡ true → later ≡ []

-- What is sent moves the window so.
abbrev pub window_after : Choice → WindowState → WindowState
window_after first window = record window {
  unacked = window.unacked ++ take 1 window.unsent;
  unsent = drop 1 window.unsent;
}
window_after _ window = window

-- of a link that is up: what its control does when a unit is sent, and when one is heard, is done to its window
pub record MovesAsItsControl (number : ℕ) (link : LinkState) (s : State) : Type 0 where
  pub sent : let window = window_of number link s.rows in
      let choice = choice_in number link s in
      (link' : LinkState) × (slice_get (next number s link).state.links number ≡ Some link')
      × (link'.control ≡ control_after choice (octets_in (unack number s.rows)) link.control window)
      × (window_of number link' (next number s link).state.rows ≡ window_after choice window)
  pub heard : (unit : SignalUnit) → is_heard s.settings.profile unit ≡ true
      → let window = window_of number link s.rows in
      let head = header_in unit in
      let after = controlled unit number s link in
      (link' : LinkState) × (slice_get after.links number ≡ Some link')
      × (link'.control ≡ control_heard link.control window head (is_msu unit))
      × (window_of number link' after.rows ≡ window_heard link.control window head)
  -- and where the unit brings no order that is all
  pub no_more : (unit : SignalUnit) → ((about : ℕ) → BringsAbout s.settings.profile about unit → ⊥)
      → let after = controlled unit number s link in
      let whole = (controls unit number s link).state in
      (whole.links ≡ after.links) × (whole.rows ≡ after.rows)
