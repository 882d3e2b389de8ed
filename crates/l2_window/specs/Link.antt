-- TWO ENDS OF ONE LINK, joined by two lines that keep order and lose any unit, whatever their error
-- control (Q.703 5 and 6).
use Rattle.std.specs.Prelude.{◌≡◌, ℕ, ◌+◌, ◌≤◌, Bool, true, Option, None, List, [], ◌∷◌, ◌++◌, take, drop, length, slice_get, is_some, if◌then◌else◌}
use Rattle.std.specs.Option.{option_to_list}
use Rattle.l2_units.specs.Grammar.{IsHeadOf}
use Rattle.l2_units.specs.declared.unit.Header.{Header}
use Rattle.l2_window.specs.Window.{Profile, WindowState, Pushes, Sends, Withdraws, fsn_before_first}
use Rattle.l2_window.specs.Control.{fsn_of, window_where}
use Rattle.l2_window.specs.Line.{Carried}
use Rattle.l2_window.specs.declared.control.Choice.{Choice}
use Rattle.l2_window.specs.declared.control.Choice.TheVariants.{Again, First, Fill}
use Rattle.l2_window.specs.declared.control.HeardPart.{HeardPart}

-- THE RULES OF AN ERROR CONTROL, as functions of its state and of the link's window.
pub record Rules (State : Type 0) : Type 0 where
  -- the FSN that is expected, the one after that last accepted (Q.703 figure 14: FSNX)
  pub expected : State → ℕ
  -- what is sent next, where the bodies of the unacknowledged messages have so many octets
  pub choice : ℕ → State → WindowState → Choice
  -- the header of a unit with this FSN
  pub head : State → WindowState → ℕ → Header
  -- the state when that is sent
  pub after : Choice → ℕ → State → WindowState → State
  -- a heard unit that isn't processed is discarded whole
  pub is_processed : State → WindowState → Header → Bool
  -- what a heard FISU or MSU means
  pub part : State → WindowState → Header → Bool → HeardPart
  -- the state when it was heard
  pub heard : State → WindowState → Header → Bool → State

-- an end, in one life of the link
pub record End (State : Type 0) : Type 0 where
  pub control : State
  pub window : WindowState
  -- messages in the order in which they were first sent
  pub sent : List ℕ
  -- the far end's messages that were accepted, in order
  pub took : List ℕ
  -- how many of those sent count as acknowledged
  pub acked : ℕ

pub record World (State : Type 0) : Type 0 where
  pub near : End State
  pub far : End State
  -- units on their way from near to far, and back, the next to come in front
  pub out : List Carried
  pub back : List Carried

-- the same link seen from the other end
abbrev pub flip : {State : Type 0} → World State → World State
flip world = record { near = world.far; far = world.near; out = world.back; back = world.out }

-- the message that is sent
abbrev pub message_of : Choice → WindowState → Option ℕ
message_of (Again place) window = slice_get window.unacked place
message_of First window = slice_get window.unsent 0
message_of Fill window = None

-- how the window moves then
abbrev pub Moves : Choice → WindowState → WindowState → Type 0
Moves (Again place) old new = new ≡ old
Moves First old new = (message : ℕ) × Sends message old new
Moves Fill old new = new ≡ old

-- A control's rules at an end, the steps of the near end, and those of the line from it.
module _ {State : Type 0} (rules : Rules State) where
  -- what the end sends, and its control then
  abbrev pub chosen : ℕ → End State → Choice
  chosen octets end = rules.choice octets end.control end.window

  abbrev pub unit_of : ℕ → End State → Carried
  unit_of octets end = record {
    head = rules.head end.control end.window (fsn_of (chosen octets end) end.window);
    message = message_of (chosen octets end) end.window;
  }

  abbrev pub control_after : ℕ → End State → State
  control_after octets end = rules.after (chosen octets end) octets end.control end.window

  -- what a unit means to the end that hears it, and its control and window then
  abbrev pub is_processed : Carried → End State → Bool
  is_processed unit end = rules.is_processed end.control end.window unit.head

  abbrev pub part_of : Carried → End State → HeardPart
  part_of unit end = rules.part end.control end.window unit.head (is_some unit.message)

  abbrev pub accepted_of : Carried → End State → List ℕ
  accepted_of unit end = if (part_of unit end).accept then option_to_list unit.message else []

  abbrev pub control_heard : Carried → End State → State
  control_heard unit end = rules.heard end.control end.window unit.head (is_some unit.message)

  abbrev pub window_heard : Carried → End State → WindowState
  window_heard unit end = window_where (is_processed unit end) end.window unit.head

  -- a user's message comes to the near end
  pub record Offers (message : ℕ) (old new : World State) : Type 0 where
    pub pushes : Pushes message old.near.window new.near.window
    pub near : new.near ≡ record old.near { window = new.near.window }
    pub far : new.far ≡ old.far
    pub out : new.out ≡ old.out
    pub back : new.back ≡ old.back

  -- the first message that waits at the near end is withdrawn
  pub record TakesBack (old new : World State) : Type 0 where
    pub withdraws : Withdraws old.near.window new.near.window
    pub near : new.near ≡ record old.near { window = new.near.window }
    pub far : new.far ≡ old.far
    pub out : new.out ≡ old.out
    pub back : new.back ≡ old.back

  -- the near end sends: a message first sent is what its unacknowledged ones gained
  pub record Emits (octets : ℕ) (old new : World State) : Type 0 where
    pub control : new.near.control ≡ control_after octets old.near
    pub window : Moves (chosen octets old.near) old.near.window new.near.window
    pub sent : new.near.sent
        ≡ old.near.sent ++ drop (length old.near.window.unacked) new.near.window.unacked
    pub took : new.near.took ≡ old.near.took
    pub acked : new.near.acked ≡ old.near.acked
    pub far : new.far ≡ old.far
    pub out : new.out ≡ old.out ++ unit_of octets old.near ∷ []
    pub back : new.back ≡ old.back

  -- the far end hears the unit that comes
  pub record Arrives (unit : Carried) (old new : World State) : Type 0 where
    pub control : new.far.control ≡ control_heard unit old.far
    pub window : new.far.window ≡ window_heard unit old.far
    pub sent : new.far.sent ≡ old.far.sent
    pub took : new.far.took ≡ old.far.took ++ accepted_of unit old.far
    pub acked : new.far.acked ≡ old.far.acked + (part_of unit old.far).acked
    pub near : new.near ≡ old.near
    pub out : old.out ≡ unit ∷ new.out
    pub back : new.back ≡ old.back

  -- a unit from near to far is lost
  pub record Loses (before : List Carried) (unit : Carried) (after : List Carried)
      (old new : World State) : Type 0 where
    pub near : new.near ≡ old.near
    pub far : new.far ≡ old.far
    pub was : old.out ≡ before ++ unit ∷ after
    pub out : new.out ≡ before ++ after
    pub back : new.back ≡ old.back

  pub data Step : World State → World State → Type 0 where
    offers : (old new : World State) (message : ℕ) → Offers message old new → Step old new
    takes_back : (old new : World State) → TakesBack old new → Step old new
    emits : (old new : World State) (octets : ℕ) → Emits octets old new → Step old new
    arrives : (old new : World State) (unit : Carried) → Arrives unit old new → Step old new
    loses : (old new : World State) (before : List Carried) (unit : Carried) (after : List Carried)
        → Loses before unit after old new → Step old new

  -- an end at the beginning of its life, its control in this state
  pub record Begins (profile : Profile) (start : State) (end : End State) : Type 0 where
    pub control : end.control ≡ start
    pub profile_is : end.window.profile ≡ profile
    pub last : end.window.last ≡ fsn_before_first profile
    pub unacked : end.window.unacked ≡ []
    pub sent : end.sent ≡ []
    pub took : end.took ≡ []
    pub acked : end.acked ≡ 0

  pub data Run (profile : Profile) (near far : State) : World State → Type 0 where
    begins : (world : World State) → Begins profile near world.near → Begins profile far world.far
        → world.out ≡ [] → world.back ≡ [] → Run profile near far world
    steps : (old new : World State) → Run profile near far old → Step old new → Run profile near far new
    steps_far : (old new : World State) → Run profile near far old → Step (flip old) (flip new)
        → Run profile near far new

  -- LAW, from near to far
  pub record IsFaithful (profile : Profile) (world : World State) : Type 0 where
    -- what was accepted is a prefix of what was first sent
    pub prefix : world.far.took ≡ take (length world.far.took) world.near.sent
    -- what counts as acknowledged was accepted
    pub acked : world.near.acked ≤ length world.far.took
    -- what is unacknowledged is left of what was first sent
    pub unacked : world.near.window.unacked ≡ drop world.near.acked world.near.sent
    -- a unit that comes is always processed, and tells no fault
    pub processed : (unit : Carried) (rest : List Carried) → world.out ≡ unit ∷ rest
        → is_processed unit world.far ≡ true
    pub no_fault : (unit : Carried) (rest : List Carried) → world.out ≡ unit ∷ rest
        → (part_of unit world.far).fault ≡ None
    pub profile_is : world.near.window.profile ≡ profile
    -- and has numbers of the profile
    pub fits : (unit : Carried) (rest : List Carried) → world.out ≡ unit ∷ rest → IsHeadOf profile unit.head

  -- in both profiles, over all runs from these two states
  abbrev pub OneLink : State → State → Type 0
  OneLink near far = (profile : Profile) (world : World State) → Run profile near far world
      → IsFaithful profile world × IsFaithful profile (flip world)
