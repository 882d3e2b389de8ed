-- LAWS of the rows and of the step: of every state and every event.
use Rattle.std.specs.Prelude.{◌≡◌, ℕ, ◌+◌, ◌-◌, ◌<◌, ◌≤◌, Bool, not, List, [], ◌++◌, length, map, drop, Option, Some, None, if◌then◌else◌, option_map}
use Rattle.set_route.specs.Routing.{NoneOpen}
use Rattle.set_model.specs.Rows.{Fate, Acked, Row, standing, is_unacked, is_on, unack, wait, held, on, parked, numbers, with_fate, turned, changed, moved, appended, put_ahead, row_of, place, body_at, owner_at, IsNumbered}
use Rattle.set_model.specs.State.{LinkState, State, given, target}
use Rattle.set_model.specs.Changeover.{Upto, fate_on, reached_by, settled}
use Rattle.set_model.specs.Sound.{IsSound, AreTogether, AreFew}

-- THE ROWS.

-- no row was taken out or put in, none has another number, another body or another owner, and no number stands in two rows
pub record SameMessages (given : ℕ) (old new : List Row) : Type 0 where
  pub count : length new ≡ length old
  pub bodies : (number : ℕ) → body_at number new ≡ body_at number old
  pub owners : (number : ℕ) → owner_at number new ≡ owner_at number old
  pub numbered : IsNumbered given new

-- whichever rows change, to whatever places
pub record MessagesStay (test : Fate → Bool) (to : Fate) (fate : Row → Fate) (given : ℕ) (rows : List Row) : Type 0 where
  pub turned_stay : (n : ℕ) → SameMessages given rows (turned test to n rows)
  pub changed_stay : SameMessages given rows (changed test to rows)
  pub moved_stay : SameMessages given rows (moved test fate rows)
  -- a new message leaves the others as they are, and is found under its number
  pub others_stay : (body : List ℕ) (number : ℕ) → number < given
      → (body_at number (appended given rows body to) ≡ body_at number rows)
      × (owner_at number (appended given rows body to) ≡ owner_at number rows)
  pub new_found : (body : List ℕ) → body_at given (appended given rows body to) ≡ Some body
  pub appended_numbered : (body : List ℕ) → IsNumbered (given + 1) (appended given rows body to)
  -- also where it's put ahead of users' messages
  pub ahead_others_stay : (body : List ℕ) (number : ℕ) → number < given
      → (body_at number (put_ahead given rows body to) ≡ body_at number rows)
      × (owner_at number (put_ahead given rows body to) ≡ owner_at number rows)
  pub ahead_found : (body : List ℕ) → body_at given (put_ahead given rows body to) ≡ Some body
  pub ahead_numbered : (body : List ℕ) → IsNumbered (given + 1) (put_ahead given rows body to)

-- what leaves a link are just its rows: they are the last ones then, in their old order; each has its new place,
-- and every other message its old one.
pub record MovesTheLinksRows (link : ℕ) (fate : Row → Fate) (rows : List Row) : Type 0 where
  pub last : numbers (drop (length rows - length (on link rows)) (moved (is_on link) fate rows))
      ≡ numbers (on link rows)
  pub places : (number : ℕ) → place number (moved (is_on link) fate rows)
      ≡ option_map (λ row. if is_on link row.fate then fate row else row.fate) (row_of number rows)

-- THE STEP.

-- none was taken out, none that was there has another body or another owner, and no number stands in two rows
pub record KeepsMessages (old new : State) : Type 0 where
  pub count : length old.rows ≤ length new.rows
  pub gone : new.finished ≡ old.finished
  pub bodies : (number : ℕ) → number < given old → body_at number new.rows ≡ body_at number old.rows
  pub owners : (number : ℕ) → number < given old → owner_at number new.rows ≡ owner_at number old.rows
  pub numbered : IsNumbered (given new) new.rows

-- no changeback is under way, and the messages of each stream are together
pub record RunsStraight (s : State) : Type 0 where
  pub none_open : NoneOpen s.routing
  pub together : AreTogether s

-- what holds of a set that nothing was asked of
pub record IsNew (s : State) : Type 0 where
  pub sound : IsSound s
  pub few : AreFew 0 s
  pub straight : RunsStraight s

-- SETTLING.

-- nothing was sent on the link and isn't acknowledged, nothing waits for it, and nothing is held for it
pub record IsEmptyLink (number : ℕ) (rows : List Row) : Type 0 where
  pub unack_none : unack number rows ≡ []
  pub wait_none : wait number rows ≡ []
  pub held_none : held number rows ≡ []

-- the rows where the far end has the first so many messages of the link: they are acknowledged
abbrev pub arrived : ℕ → ℕ → List Row → List Row
arrived count number rows = turned (is_unacked number) (Acked number) count rows

-- the rows that aren't on the link stand first; then exactly those that were on it, for the target; both in their order
abbrev pub moved_off : ℕ → ℕ → State → List Row
moved_off count number s =
    standing (λ f. not (is_on number f)) (arrived count number s.rows)
    ++ map (with_fate (fate_on (target s.links))) (on number (arrived count number s.rows))

pub record MovesTheRest (fsn number : ℕ) (link : LinkState) (s : State) : Type 0 where
  pub rows_are : (settled (Upto fsn) number link s).rows ≡ moved_off (reached_by fsn number link s.rows) number s
  -- of what was on the link, just the acknowledged ones aren't moved
  pub sent_rest : unack number (arrived (reached_by fsn number link s.rows) number s.rows)
      ≡ drop (reached_by fsn number link s.rows) (unack number s.rows)
  pub waiting_all : wait number (arrived (reached_by fsn number link s.rows) number s.rows) ≡ wait number s.rows
  pub held_all : held number (arrived (reached_by fsn number link s.rows) number s.rows) ≡ held number s.rows

-- the numbers of the link's messages past those that the far end has: first those that were sent, then those that
-- waited, then those that were held
abbrev pub rest_of : ℕ → ℕ → List Row → List ℕ
rest_of link count rows =
    numbers (drop count (unack link rows)) ++ numbers (wait link rows) ++ numbers (held link rows)

-- they stand, in this order, behind all that waited for the target before, or was parked
abbrev pub DivertsTo : Option ℕ → List ℕ → List Row → List Row → Type 0
DivertsTo (Some to) rest old new = numbers (wait to new) ≡ numbers (wait to old) ++ rest
DivertsTo None rest old new = numbers (parked new) ≡ numbers (parked old) ++ rest
