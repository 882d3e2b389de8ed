-- A CHECKPOINT: what a set goes on from without the messages that are finished. They leave its rows and are counted.
use Rattle.std.specs.Prelude.{◌≡◌, ◌+◌, ◌&&◌, not, ℕ, Bool, false, List, [], ◌∷◌, length, filter, Option, None, Some, if◌then◌else◌, unwrap_or}
use Rattle.set_events.specs.declared.answer.Counts.{Counts}
use Rattle.set_model.specs.Rows.{Fate, DiscardCause, Emergency, Unreasonable, NoAnswer, Discarded, Parked, Row, standing, is_users, users, was_acked, same_fate, counts_of, row_of}
use Rattle.set_model.specs.Sound.{IsSound, is_unfinished}
use Rattle.set_model.specs.State.{FinishedCounts, State, given}

-- it was discarded for this cause
abbrev pub was_discarded_by : DiscardCause → Fate → Bool
was_discarded_by cause fate = same_fate fate (Discarded cause)

-- the rows that stay, in their order, and those that leave
abbrev pub unfinished : List Row → List Row
unfinished rows = standing is_unfinished rows

abbrev pub ended : List Row → List Row
ended rows = standing (λ fate. not (is_unfinished fate)) rows

-- those that leave are counted beside those that left before
abbrev pub counted : FinishedCounts → List Row → FinishedCounts
counted f rows = record {
  acked = f.acked + length (standing was_acked (users rows));
  emergency = f.emergency + length (standing (was_discarded_by Emergency) (users rows));
  unreasonable = f.unreasonable + length (standing (was_discarded_by Unreasonable) (users rows));
  no_answer = f.no_answer + length (standing (was_discarded_by NoAnswer) (users rows));
  orders = f.orders + length (filter (λ row. not (is_users row) && not (is_unfinished row.fate)) rows);
}

abbrev pub checkpointed : State → State
checkpointed s = record s { rows = unfinished s.rows; finished = counted s.finished s.rows }

-- how many of the users' messages stand in each place, those that left the rows too
abbrev pub counts_in : State → Counts
counts_in s = let c = counts_of s.rows in record c {
  acked = s.finished.acked + c.acked;
  discarded = s.finished.emergency + s.finished.unreasonable + s.finished.no_answer + c.discarded;
}

-- the row, if it stays
abbrev pub stays : Option Row → Option Row
stays None = None
stays (Some row) = if is_unfinished row.fate then Some row else None

-- THE ROWS of these numbers, by what is found under each
abbrev pub rebuilt : (ℕ → Option Bool) → (ℕ → Option (List ℕ)) → (ℕ → Option Fate) → List ℕ → List Row
rebuilt users body fate [] = []
rebuilt users body fate (n ∷ ns) = record {
  number = n;
  body = unwrap_or (body n) [];
  users = unwrap_or (users n) false;
  fate = unwrap_or (fate n) Parked;
} ∷ rebuilt users body fate ns

-- LAW: no number is given out anew, each row that stays is as it was, the others are counted where they stood, and what
-- holds of every state holds
pub record Checkpoints (s : State) : Type 0 where
  pub given_same : given (checkpointed s) ≡ given s
  pub counts_same : counts_in (checkpointed s) ≡ counts_in s
  pub sound : IsSound s → IsSound (checkpointed s)
  pub kept : (number : ℕ) → IsSound s → row_of number (checkpointed s).rows ≡ stays (row_of number s.rows)
