-- WHAT A SET WAS OPENED WITH, and what it stays from then on.
use Rattle.std.specs.Prelude.{◌≡◌, ◌≤◌, ℕ, List, [], ◌∷◌, length}
use Rattle.std.specs.declared.sync.ledger.Blank.{Blank}
use Rattle.l2_units.specs.declared.profile.Profile.TheVariants.{Narrow}
use Rattle.set_events.specs.declared.config.Method.TheVariants.{Basic}
use Rattle.set_events.specs.declared.history.Entry.{Entry}
use Rattle.set_ledger.specs.declared.share.Blanks.{Blanks}
use Rattle.set_model.specs.Checkpoint.{checkpointed}
use Rattle.set_model.specs.State.{Settings, opened_with}
use Rattle.set_model.specs.History.{Base, LinkSet, IsLegal, after, books_of, entries_in, longest_history, no_books}

-- what a set that was opened with these settings goes on from
abbrev pub opening_with : Settings → Base
opening_with settings = record { state = opened_with settings; books = no_books }

-- what a checkpoint after this history leaves to go on from
abbrev pub next_base : Base → List Entry → Base
next_base base history = record { state = checkpointed (after base.state history); books = books_of base history }

-- and what is left by one after each of these, and that each of them is legal
abbrev pub base_after : Base → List (List Entry) → Base
base_after base [] = base
base_after base (history ∷ histories) = base_after (next_base base history) histories

abbrev pub AreLegal : Base → List (List Entry) → Type 0
AreLegal base [] = Unit {0}
AreLegal base (history ∷ histories) = IsLegal base.state history × AreLegal (next_base base history) histories

-- A BASE OF THESE SETTINGS: legal histories lead to it from their opening, with a checkpoint after each
pub record IsBaseOf (settings : Settings) (base : Base) : Type 0 where
  pub histories : List (List Entry)
  pub legal : AreLegal (opening_with settings) histories
  pub base_is : base ≡ base_after (opening_with settings) histories

-- and there were so many of them
pub record IsBaseBehind (settings : Settings) (checkpoints : ℕ) (base : Base) : Type 0 where
  pub is_base : IsBaseOf settings base
  pub as_many : length is_base.histories ≡ checkpoints

-- A SET OF THESE SETTINGS: it holds what a legal history leads to from a base of theirs
pub record IsSetOf (settings : Settings) (set : LinkSet) : Type 0 where
  pub base_of : IsBaseOf settings set.base
  pub legal : IsLegal set.base.state set.history
  pub state_is : set.state ≡ after set.base.state set.history
  pub short : entries_in set ≤ longest_history

-- where nobody picks: no set has them
abbrev pub no_blank : Blank
no_blank = record { marker = record {}; name = 0; parts = 0 }

abbrev pub no_blanks : Blanks
no_blanks = record { calls = no_blank; messages = no_blank; octets = no_blank; acknowledged = no_blank; full = no_blank; checkpoints = no_blank }

abbrev pub no_settings : Settings
no_settings = record { set = 0; links = 0; method = Basic; profile = Narrow; sio = 0; dpc = 0; opc = 0 }
