-- THE ROWS OF A SET: its messages, each in exactly one place, as one list in the order of queueing, in which orders but
-- declarations go ahead of the users' messages. Read this file first.
use Rattle.l2_units.specs.declared.profile.Profile.{Profile}
use Rattle.l2_units.specs.Profile.{longest_body}
use Rattle.std.specs.Prelude.{◌≡◌, ℕ, suc, zero, ◌==◌, ◌+◌, ◌%◌, ◌/◌, ◌≤◌, nat_lt, Bool, true, false, not, ◌&&◌, ◌||◌, List, [], ◌∷◌, ◌++◌, length, filter, map, find, Option, slice_index, if◌then◌else◌, option_map}
pub use Rattle.set_events.specs.declared.answer.Fate.{Fate}
pub use Rattle.set_events.specs.declared.answer.Fate.TheVariants.{Waiting, Unacked, Held, Back, Acked, Discarded, Parked}
use Rattle.set_events.specs.declared.answer.Counts.{Counts}
pub use Rattle.set_events.specs.Places.{waits, was_sent, was_acked, was_held, is_parked, stands_back, was_discarded, is_unsent, same_fate}
use Rattle.set_route.specs.Routing.{home_of}
pub use Rattle.set_events.specs.declared.answer.DiscardCause.{DiscardCause}
pub use Rattle.set_events.specs.declared.answer.DiscardCause.TheVariants.{Emergency, NoAnswer, Unreasonable}

-- A message: the number under which it was accepted, its octets, whether it's a user's or the management's, and its fate,
-- the one place where it stands.
pub record Row : Type 0 where
  pub number : ℕ
  pub body : List ℕ
  pub users : Bool
  pub fate : Fate

-- Where a row stands: on one link.

abbrev pub is_waiting : ℕ → Fate → Bool
is_waiting link fate = same_fate fate (Waiting link)

abbrev pub is_unacked : ℕ → Fate → Bool
is_unacked link fate = same_fate fate (Unacked link)

abbrev pub is_held : ℕ → Fate → Bool
is_held link fate = same_fate fate (Held link)

-- it isn't settled what becomes of it on the link: it waits for it, was sent on it, or is held for it
abbrev pub is_on : ℕ → Fate → Bool
is_on link (Waiting l) = l == link
is_on link (Unacked l) = l == link
is_on link (Held l) = l == link
is_on link _ = false

-- it waits for the acknowledgement of this changeback code, or of one of this home (Q.704 6.3)
abbrev pub is_back : ℕ → Fate → Bool
is_back code fate = same_fate fate (Back code)

abbrev pub is_back_to : ℕ → Fate → Bool
is_back_to home (Back c) = home_of c == home
is_back_to home _ = false

-- The filters. Rows stay in their order.

-- the rows that stand where the test tells
abbrev pub standing : (Fate → Bool) → List Row → List Row
standing test rows = filter (λ row. test row.fate) rows

-- sent on the link and not acknowledged; waiting for it; held for it; all three; those that no link can take
abbrev pub unack : ℕ → List Row → List Row
unack link rows = standing (is_unacked link) rows

abbrev pub wait : ℕ → List Row → List Row
wait link rows = standing (is_waiting link) rows

abbrev pub held : ℕ → List Row → List Row
held link rows = standing (is_held link) rows

abbrev pub on : ℕ → List Row → List Row
on link rows = standing (is_on link) rows

abbrev pub parked : List Row → List Row
parked rows = standing is_parked rows

-- those that wait for a changeback
abbrev pub back : List Row → List Row
back rows = standing stands_back rows

abbrev pub numbers : List Row → List ℕ
numbers rows = map (λ row. row.number) rows

-- the octets of the bodies of these messages
abbrev pub octets_in : List Row → ℕ
octets_in [] = 0
octets_in (row ∷ rows) = length row.body + octets_in rows

-- the SLS, which is the message's stream: the high four bits of the last octet of the label (Q.704 15.2), so one of 16
abbrev pub stream_of : List ℕ → ℕ
stream_of body = slice_index body 4 / 16 % 16

-- the service indicator: the low four bits of the SIO (Q.704 14.2.1)
abbrev pub service_indicator : List ℕ → ℕ
service_indicator body = slice_index body 0 % 16

-- a body of service indicator 0 is the management's, and another a user's
abbrev pub is_managements : List ℕ → Bool
is_managements body = service_indicator body == 0

-- a message of the users; the others are the management's orders
abbrev pub is_users : Row → Bool
is_users row = row.users

abbrev pub users : List Row → List Row
users rows = filter is_users rows

-- the users' messages of a stream that aren't sent yet
abbrev pub unsent : ℕ → List Row → List Row
unsent stream rows = filter (λ row. is_users row && ((stream_of row.body == stream) && is_unsent row.fate)) rows

-- Rows that change.

abbrev pub with_fate : Fate → Row → Row
with_fate fate row = record row { fate = fate }

-- the first n rows that stand where the test tells get the fate, in their places
abbrev pub turned : (Fate → Bool) → Fate → ℕ → List Row → List Row
turned test fate zero rows = rows
turned test fate (suc n) [] = []
turned test fate (suc n) (row ∷ rows) =
    if test row.fate then with_fate fate row ∷ turned test fate n rows else row ∷ turned test fate (suc n) rows

-- all of them, in their places
abbrev pub changed : (Fate → Bool) → Fate → List Row → List Row
changed test fate rows = turned test fate (length rows) rows

-- those of them that a test of rows picks, all of them, in their places: orders, or the one of a number
abbrev pub picked_turned : (Row → Bool) → (Fate → Bool) → Fate → Row → Row
picked_turned picks test fate row = if test row.fate && picks row then with_fate fate row else row

abbrev pub picked_changed : (Row → Bool) → (Fate → Bool) → Fate → List Row → List Row
picked_changed picks test fate rows = map (picked_turned picks test fate) rows

abbrev pub orders_changed : (Fate → Bool) → Fate → List Row → List Row
orders_changed test fate rows = picked_changed (λ row. not (is_users row)) test fate rows

abbrev pub one_changed : ℕ → (Fate → Bool) → Fate → List Row → List Row
one_changed number test fate rows = picked_changed (λ row. row.number == number) test fate rows

-- the fate that each row has then, told by the row
abbrev pub fated : (Row → Fate) → Row → Row
fated fate row = with_fate (fate row) row

-- they leave their places and stand at the end, in the same order, each with its fate
abbrev pub moved : (Fate → Bool) → (Row → Fate) → List Row → List Row
moved test fate rows = standing (λ f. not (test f)) rows ++ map (fated fate) (standing test rows)

-- all of them with one
abbrev pub all_with : Fate → Row → Fate
all_with fate row = fate

-- a new message stands at the end, under this number
abbrev pub appended : ℕ → List Row → List ℕ → Fate → List Row
appended number rows body fate =
    rows ++ record { number = number; body = body; users = not (is_managements body); fate = fate } ∷ []

-- or, the management's, before the first of the users' messages in its place, and at the end where there is none
abbrev pub is_users_at : Fate → Row → Bool
is_users_at fate row = is_users row && same_fate row.fate fate

abbrev pub put_ahead : ℕ → List Row → List ℕ → Fate → List Row
put_ahead number [] body fate = record { number = number; body = body; users = false; fate = fate } ∷ []
put_ahead number (row ∷ rows) body fate =
    if is_users_at fate row
    then record { number = number; body = body; users = false; fate = fate } ∷ row ∷ rows
    else row ∷ put_ahead number rows body fate

-- What the readers tell.

abbrev pub row_of : ℕ → List Row → Option Row
row_of number rows = find (λ row. row.number == number) rows

-- where the message of this number stands, and its octets
abbrev pub place : ℕ → List Row → Option Fate
place number rows = option_map (λ row. row.fate) (row_of number rows)

abbrev pub body_at : ℕ → List Row → Option (List ℕ)
body_at number rows = option_map (λ row. row.body) (row_of number rows)

-- and whether it's a user's
abbrev pub owner_at : ℕ → List Row → Option Bool
owner_at number rows = option_map is_users (row_of number rows)

-- how many of the users' messages stand in each place
abbrev pub counts_of : List Row → Counts
counts_of rows = record {
  waiting = length (standing waits (users rows));
  unacked = length (standing was_sent (users rows));
  acked = length (standing was_acked (users rows));
  held = length (standing was_held (users rows));
  parked = length (standing is_parked (users rows));
  back = length (standing stands_back (users rows));
  discarded = length (standing was_discarded (users rows));
}

abbrev pub total_of : Counts → ℕ
total_of c = c.waiting + c.unacked + c.acked + c.held + c.parked + c.back + c.discarded

-- What holds of every set's rows.

-- no number stands in two rows, and each that does was given out
abbrev pub IsNumbered : ℕ → List Row → Type 0
IsNumbered given rows =
    (number : ℕ) → length (filter (λ row. row.number == number) rows) ≤ (if nat_lt number given then 1 else 0)

-- a fact of each
abbrev pub Each : {X : Type 0} → (X → Type 0) → List X → Type 0
Each fact [] = Unit {0}
Each fact (x ∷ xs) = fact x × Each fact xs

-- no body is longer than a unit's
abbrev pub AreFit : Profile → List Row → Type 0
AreFit profile rows = Each (λ row. length row.body ≤ longest_body profile) rows

-- whose each message is, its body tells
abbrev pub AreMarked : List Row → Type 0
AreMarked rows = Each (λ row. is_users row ≡ not (is_managements row.body)) rows

-- no row that stands where the first test tells stands behind one that stands where the other does
abbrev pub AreBefore : (Fate → Bool) → (Fate → Bool) → List Row → Type 0
AreBefore first other [] = Unit {0}
AreBefore first other (row ∷ rows) =
    (other row.fate ≡ true → standing first rows ≡ []) × AreBefore first other rows

-- what callers keep of each link: no message sent on it stands behind one that waits for it
abbrev pub IsInOrder : ℕ → List Row → Type 0
IsInOrder link rows = AreBefore (is_unacked link) (is_waiting link) rows

-- and no message that waits for it, or was sent on it, stands behind one that is held for it
abbrev pub IsHeldLast : ℕ → List Row → Type 0
IsHeldLast link rows = AreBefore (λ f. is_unacked link f || is_waiting link f) (is_held link) rows
