-- WHAT LEVEL 3 ASKS IS CARRIED OUT by the bench's own calls, one after another, until nothing more is asked.
use Rattle.std.specs.Prelude.{◌≡◌, ◌≤◌, ℕ, Bool, true, false, ◌&&◌, List, [], ◌∷◌, Option, Some, None, is_none, slice_get, slice_set}
use Rattle.l3_link.specs.Management.{Management}
use Rattle.l3_link.specs.Table.{Row, answered}
use Rattle.l3_link.specs.declared.signals.Ask.{Ask}
use Rattle.set_events.specs.declared.answer.Answer.{Answer}
use Rattle.set_events.specs.declared.answer.Refusal.{Refusal}
use Rattle.set_events.specs.declared.event.Actor.TheVariants.{Terminal as TerminalOf}
use Rattle.set_events.specs.declared.event.Event.{Event}
use Rattle.set_events.specs.declared.fault.SetFault.{SetFault}
use Rattle.set_model.specs.History.{IsStep, entries_in, longest_history}
use Rattle.term_bench.specs.Ends.{BenchState, Commands, is_start, phase_of}
use Rattle.term_bench.specs.declared.word.Phase.{Phase}
use Rattle.term_managed.specs.Ends.{ManagedState}
use Rattle.term_managed.specs.declared.kept.Kept.{Kept}
use Rattle.term_managed.specs.declared.turn.Deed.{Deed}
use Rattle.term_model.specs.declared.command.Command.{Command}

abbrev pub is_left : Phase → Bool
is_left Phase.Left = true
is_left _ = false

-- A COMMAND waits for the terminal's next turn; one to start is refused where the link was left and isn't settled
abbrev pub is_barred : ℕ → Command → BenchState → Bool
is_barred link command bench = is_start command && is_left (phase_of link bench.set.state)

abbrev pub TellsBy : Bool → ℕ → Command → BenchState → Option Refusal → BenchState → Type 0
TellsBy true link command old refused new = (refused ≡ Some Refusal.Unsettled) × (new ≡ old)
TellsBy false link command old refused new = (refused ≡ None) × Commands link command old new

abbrev pub Tells : ℕ → Command → BenchState → Option Refusal → BenchState → Type 0
Tells link command old refused new = TellsBy (is_barred link command old) link command old refused new

-- AN EVENT of the link's terminal, which the set answers at once
abbrev pub refusal_in : Answer → Option Refusal
refusal_in (Answer.Refused why) = Some why
refusal_in _ = None

pub record Asks (link : ℕ) (event : Event) (old : BenchState) (refused : Option Refusal) (new : BenchState) : Type 0 where
  pub answer : Answer
  pub step : IsStep old.set (TerminalOf link) event answer new.set
  pub links_are : new.links ≡ old.links
  pub refused_is : refused ≡ refusal_in answer

-- WHAT IS ASKED of a link, done or refused (Q.704 5, 6, 12.2): its terminal is commanded, or the set is told an event.
abbrev pub CarriesOut : ℕ → Ask → BenchState → Option Refusal → BenchState → Type 0
CarriesOut link (Ask.Rise true) old refused new =
    (first : Option Refusal) × (between : BenchState)
    × Tells link Command.Emergency old first between × Tells link Command.Start between refused new
CarriesOut link (Ask.Rise false) old refused new = Tells link Command.Start old refused new
CarriesOut link Ask.Emergency old refused new = Tells link Command.Emergency old refused new
CarriesOut link Ask.Stop old refused new = Tells link Command.Stop old refused new
CarriesOut link Ask.Test old refused new = Asks link (Event.Test link) old refused new
CarriesOut link Ask.Timed old refused new = Asks link (Event.Timed link) old refused new
CarriesOut link Ask.NoAnswer old refused new = Asks link (Event.NoAnswer link) old refused new
CarriesOut link Ask.Restore old refused new = Asks link (Event.Restore link) old refused new
CarriesOut link Ask.Redeclare old refused new = Asks link (Event.Redeclare link) old refused new
CarriesOut link Ask.BackTimeout old refused new = Asks link (Event.BackTimeout link) old refused new

-- ONE AFTER ANOTHER: each is carried out, and its management is told whether it was done, and asks the next
abbrev pub Chain : ℕ → Option Ask → Management → BenchState → List Deed → Option Ask → Management → BenchState → Type 0
Chain link asked m old [] asked' m' new = (asked' ≡ asked) × (m' ≡ m) × (new ≡ old)
Chain link asked m old (deed ∷ deeds) asked' m' new =
    (between : BenchState) × (asked ≡ Some deed.ask) × CarriesOut link deed.ask old deed.refused between
    × (let row = answered (is_none deed.refused) m in Chain link row.asked row.next between deeds asked' m' new)

-- WHAT THIS ROW OF A LINK'S MANAGEMENT ASKS is carried out, and all that is asked behind it
pub record Carries (link : ℕ) (row : Management → Row) (old : ManagedState) (deeds : List Deed) (new : ManagedState) : Type 0 where
  pub was : Kept
  pub management : Management
  pub is_at : slice_get old.kept link ≡ Some was
  pub chain : Chain link (row was.management).asked (row was.management).next old.bench deeds None management new.bench
  pub kept_are : new.kept ≡ slice_set old.kept link (record was { management = management })

-- the same up to a fault: no memory, or the set's history is full. What is asked then isn't carried out.
abbrev pub IsFault : SetFault → BenchState → Type 0
IsFault fault bench = fault ≡ SetFault.Exhausted → longest_history ≤ entries_in bench.set

pub record CarriesSome (link : ℕ) (row : Management → Row) (fault : SetFault) (old new : ManagedState) : Type 0 where
  pub was : Kept
  pub deeds : List Deed
  pub ask : Ask
  pub management : Management
  pub is_at : slice_get old.kept link ≡ Some was
  pub chain : Chain link (row was.management).asked (row was.management).next old.bench deeds (Some ask) management new.bench
  pub kept_are : new.kept ≡ slice_set old.kept link (record was { management = management })
  pub told : IsFault fault new.bench
