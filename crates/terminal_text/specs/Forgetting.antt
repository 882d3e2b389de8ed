-- CHECKPOINTS THAT NOBODY ASKS FOR: one behind each so many turns of all links together, whichever line brought them.
use Rattle.std.specs.Prelude.{◌≡◌, ℕ, length, ◌==◌, ◌-◌, ◌&&◌, Bool, true, false, List, [], ◌∷◌, ◌++◌, Option, Some, None, if◌then◌else◌}
use Rattle.l2_units.specs.declared.profile.Profile.TheVariants.{Narrow}
use Rattle.set_core.specs.Items.{piece}
use Rattle.set_events.specs.declared.history.Entry.{Entry}
use Rattle.set_model.specs.History.{based}
use Rattle.set_model.specs.State.{late_at}
use Rattle.term_managed.specs.Ends.{ManagedState}
use Rattle.term_managed.specs.Turns.{HeardTurn, HearsPiece}
use Rattle.text_entries.specs.Pieces.{items_text}
use Rattle.terminal_text.specs.Rows.{Shows}
use Rattle.terminal_text.specs.Showing.{Shown, gone, turned}
use Rattle.terminal_text.specs.Moving.{moved, told_again}
use Rattle.terminal_text.specs.Stopping.{all_unwatched, stopper_of, watch_of, watched}
use Rattle.terminal_text.specs.declared.forgetting.Forgetting.{Forgetting}
use Rattle.terminal_text.specs.declared.forgetting.ForgettingBench.{ForgettingBench}
use Rattle.terminal_text.specs.declared.rows.Rows.{Rows}
use Rattle.terminal_text.specs.declared.stopping.Stopper.{Stopper}

-- there are none
abbrev pub never : Forgetting
never = record { every = 0; left = 0; told = false }

-- from now on behind each so many turns; 0: none
abbrev pub from_now : ℕ → Bool → Forgetting
from_now every told = record { every = every; left = every; told = told }

-- it's due behind this turn
abbrev pub is_due : Forgetting → Bool
is_due plan = plan.left == 1

abbrev pub one_turn : Forgetting → Forgetting
one_turn plan = record { every = plan.every; left = if is_due plan then plan.every else plan.left - 1; told = plan.told }

-- an end where nobody asked for them, nor to tell of streams, nor told a link to stop
abbrev pub unasked : ManagedState → ForgettingBench
unasked managed = record { managed = managed; plan = never; watches = all_unwatched; streams = None }

-- A CHECKPOINT of the set
abbrev pub checkpointed : ManagedState → ManagedState
checkpointed s = record { bench = record { set = based s.bench.set; links = s.bench.links }; kept = s.kept }

-- the entries that go at a checkpoint, which a quiet one doesn't tell
abbrev pub gone_text : Bool → List Entry → List ℕ
gone_text false history = items_text Narrow (piece history)
gone_text true history = []

-- BEHIND A TURN OF ANY LINK, and all that level 3 asked behind it
abbrev pub forgotten : ForgettingBench → ForgettingBench
forgotten s = record {
  managed = if is_due s.plan then checkpointed s.managed else s.managed;
  plan = one_turn s.plan;
  watches = s.watches;
  streams = s.streams;
}

-- what is shown of it: nothing, or what goes where that is told
abbrev pub gone_by : Bool → List Entry → List Shown
gone_by false history = []
gone_by true history = gone (gone_text false history) ∷ []

abbrev pub gone_behind : ForgettingBench → List Shown
gone_behind s = gone_by (is_due s.plan && s.plan.told) s.managed.bench.set.history

-- WHERE STREAMS RUN, behind a turn of this number or an event of the set: it's told anew, before the checkpoint
abbrev pub retold : ForgettingBench → ForgettingBench
retold s = record {
  managed = s.managed;
  plan = s.plan;
  watches = s.watches;
  streams = told_again s.streams s.managed.bench.set.state;
}

abbrev pub lines_behind : List ℕ → List Shown
lines_behind [] = []
lines_behind (c ∷ cs) = gone (c ∷ cs) ∷ []

abbrev pub shown_after : ℕ → ForgettingBench → List Shown
shown_after turn s = lines_behind (moved turn s.streams s.managed.bench.set.state) ++ gone_behind (retold s)

-- A TURN OF THIS LINK: who stopped it, if it was stopped; and what is left of the end, before a checkpoint behind the turn
abbrev pub late_before : ℕ → ForgettingBench → ℕ
late_before link old = late_at link old.managed.bench.set.state

abbrev pub stopper_in : ℕ → ForgettingBench → Stopper
stopper_in link old = stopper_of (late_before link old) (watch_of link old.watches)

abbrev pub behind_turn : ℕ → ForgettingBench → HeardTurn → ManagedState → ForgettingBench
behind_turn link old heard between = record {
  managed = between;
  plan = old.plan;
  watches = watched link (late_before link old) heard.turn.deeds old.watches;
  streams = old.streams;
}

-- A PIECE OF BITS COMES, of eight or fewer: what is shown, and what is left, where it brought a turn, and where it waits
abbrev pub shown_of : ℕ → ForgettingBench → Option HeardTurn → ManagedState → List Shown
shown_of link old None between = []
shown_of link old (Some heard) between =
    turned (stopper_in link old) heard ∷ shown_after heard.turn.turn.number (behind_turn link old heard between)

abbrev pub left_by : ℕ → ForgettingBench → Option HeardTurn → ManagedState → ForgettingBench
left_by link old None between = record { managed = between; plan = old.plan; watches = old.watches; streams = old.streams }
left_by link old (Some heard) between = forgotten (retold (behind_turn link old heard between))

pub record HearsOne (link : ℕ) (bits : List Bool) (old : ForgettingBench) (items : List Shown) (new : ForgettingBench) : Type 0 where
  pub one : Option HeardTurn
  pub between : ManagedState
  pub hears : HearsPiece link bits old.managed one between
  pub items_are : items ≡ shown_of link old one between
  pub new_is : new ≡ left_by link old one between

-- PIECES COME, the first one first
abbrev pub HearsEach : ℕ → List (List Bool) → ForgettingBench → List Shown → ForgettingBench → Type 0
HearsEach link [] old items new = (items ≡ []) × (new ≡ old)
HearsEach link (bits ∷ pieces) old items new =
    (between : ForgettingBench) × (first : List Shown) × (later : List Shown)
    × HearsOne link bits old first between × HearsEach link pieces between later new × (items ≡ first ++ later)

-- THE CODE beside the definition: a turn of this number was taken, and what is behind it is done and shown: where streams run,
-- and the checkpoint
pub record IsOver (turn : ℕ) (old new : ForgettingBench) (was now : Rows) : Type 0 where
  pub new_is : new ≡ forgotten (retold old)
  pub shows : Shows was (shown_after turn old) now
  pub links : length new.managed.bench.links ≡ length old.managed.bench.links

pub record IsForgotten (old new : ForgettingBench) (was now : Rows) : Type 0 where
  pub new_is : new ≡ forgotten old
  pub shows : Shows was (gone_behind old) now
  pub links : length new.managed.bench.links ≡ length old.managed.bench.links
