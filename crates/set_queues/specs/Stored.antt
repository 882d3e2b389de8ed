-- MESSAGES THAT ARE FORGOTTEN WHERE THEY STAND: periods end when what is finished is forgotten, and each message has
-- the one in which it came to stand where it stands.
use Rattle.std.specs.Prelude.{◌≡◌, ◌≤◌, ◌==◌, ◌||◌, ℕ, Bool, true, false, List, map, Option, None, Some, slice_get, if◌then◌else◌}
use Rattle.set_queues.specs.Buffers.{is_standing}
use Rattle.set_queues.specs.Slots.{slots_of}
pub use Rattle.set_queues.specs.declared.message.Message.{Message}
pub use Rattle.set_queues.specs.declared.message.Stored.{Stored}

-- what is there in a period: what isn't finished, and what finished in that period
abbrev pub shown_in : ℕ → Option Stored → Option Message
shown_in period None = None
shown_in period (Some s) = if is_standing s.message.fate || s.period == period then Some s.message else None

abbrev pub seen_in : ℕ → List ℕ → ℕ → List Stored → List (Option Message)
seen_in period older first all = map (shown_in period) (slots_of older first all)

-- no period is one to come
abbrev pub AreBefore : ℕ → List Stored → Type 0
AreBefore period all =
    (place : ℕ) (s : Stored) → slice_get all place ≡ Some s → is_standing s.message.fate ≡ false → s.period ≤ period

-- none is finished
abbrev pub AreStanding : List Stored → Type 0
AreStanding all = (place : ℕ) (s : Stored) → slice_get all place ≡ Some s → is_standing s.message.fate ≡ true

abbrev pub stays_on : Option Stored → Bool
stays_on None = false
stays_on (Some s) = is_standing s.message.fate
