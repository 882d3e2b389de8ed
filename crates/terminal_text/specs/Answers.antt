-- WHAT A LINE OF `terminal` PRINTS, and what it leaves of a bench.
use Rattle.std.specs.Prelude.{◌≡◌, ℕ, Bool, true, false, not, ◌==◌, ◌&&◌, nat_lt, List, [], ◌∷◌, ◌++◌, length, map, Option, Some, None, slice_get, codes, decimal}
use Rattle.text_entries.specs.Texts.{answer_text}
use Rattle.term_bench.specs.Ends.{AtLink, BenchState, Commands, is_start, phase_of, word_of}
use Rattle.term_managed.specs.Ends.{ManagedState, is_on}
use Rattle.term_managed.specs.Turns.{Activates, Deactivates}
use Rattle.term_managed.specs.declared.turn.Deed.{Deed}
use Rattle.term_bench.specs.declared.counts.TurnCounts.{TurnCounts}
use Rattle.term_bench.specs.declared.word.LinkWord.{LinkWord}
use Rattle.term_bench.specs.declared.word.Phase.{Phase}
use Rattle.text_base.specs.Figures.{hex_text}
use Rattle.text_entries.specs.Entries.{entries_text}
use Rattle.l2_bits.specs.Flags.{flag}
use Rattle.l2_bits.specs.LineBits.{bits_of, line_bits}
use Rattle.l2_bits.specs.SealedText.{sealed_text}
use Rattle.l2_bits.specs.Stuffing.{text_after}
use Rattle.l2_units.specs.Numbers.{cause_number}
use Rattle.l2_units.specs.declared.cause.Cause.{Cause}
use Rattle.l2_units.specs.declared.profile.Profile.TheVariants.{Narrow}
use Rattle.set_events.specs.declared.answer.Answer.{Answer}
use Rattle.set_events.specs.declared.event.Actor.{Actor}
use Rattle.set_events.specs.declared.event.Actor.TheVariants.{User, Terminal as TerminalOf}
use Rattle.set_events.specs.declared.event.Event.{Event}
use Rattle.set_model.specs.History.{IsStep}
use Rattle.term_model.specs.declared.command.Command.{Command}
use Rattle.text_forms.specs.declared.asked.Asked.{Asked}
use Rattle.terminal_text.specs.Forgetting.{HearsEach, checkpointed, from_now, gone_text}
use Rattle.terminal_text.specs.Counting.{counts_text}
use Rattle.terminal_text.specs.Moving.{moved, places, told_again}
use Rattle.terminal_text.specs.Stopping.{commanded_by, managed_by}
use Rattle.terminal_text.specs.declared.stopping.Watch.{Watch}
use Rattle.terminal_text.specs.Showing.{Shown, deeds_lines, over, shown, turns_among, without_unit, word_name}
use Rattle.terminal_text.specs.declared.forgetting.ForgettingBench.{ForgettingBench}

abbrev pub done_text : List ℕ
done_text = codes "done\n"

-- START AND EMERGENCY of a link that the set has left and not settled are refused, with the number of Unsettled
abbrev pub is_left : Phase → Bool
is_left Phase.Left = true
is_left _ = false

abbrev pub is_refused : Command → ℕ → BenchState → Bool
is_refused command link old = is_start command && is_left (phase_of link old.set.state)

abbrev pub CommandsBy : Bool → ℕ → Command → ManagedState → List ℕ → ManagedState → Type 0
CommandsBy true link command old printed new = (printed ≡ codes "refused 7\n") × (new ≡ old)
CommandsBy false link command old printed new =
    (printed ≡ done_text) × Commands link command old.bench new.bench × (new.kept ≡ old.kept)

-- OCTETS: what their turns show, and the octets that these put, as many
pub record Exchanges (link : ℕ) (octets : List ℕ) (old : ForgettingBench) (printed : List ℕ) (new : ForgettingBench) : Type 0 where
  pub items : List Shown
  pub hears : HearsEach link (map (bits_of 8) octets) old items new
  pub printed_is : printed ≡ shown link (map without_unit items)
      ++ (codes "octets " ++ (decimal link ++ (codes " "
      ++ (hex_text (map (λ h. h.turn.turn.put) (turns_among items)) ++ codes "\n"))))

-- LAW: as many octets go out as came
abbrev pub AsManyGoOut : Type 0
AsManyGoOut =
    (link : ℕ) (octets : List ℕ) (old : ForgettingBench) (printed : List ℕ) (new : ForgettingBench)
    → (e : Exchanges link octets old printed new) → length (map (λ h. h.turn.turn.put) (turns_among e.items)) ≡ length octets

-- BITS: what the turns show that are taken by them, and how many these are
abbrev pub one_by_one : List Bool → List (List Bool)
one_by_one bits = map (λ bit. bit ∷ []) bits

pub record HearsLine (link : ℕ) (bits : List Bool) (old : ForgettingBench) (printed : List ℕ) (new : ForgettingBench) : Type 0 where
  pub items : List Shown
  pub hears : HearsEach link (one_by_one bits) old items new
  pub printed_is : printed ≡ shown link items ++ (codes "turns " ++ (decimal (length (turns_among items)) ++ codes "\n"))

-- a unit on the line: its octets and their check octets (Q.703 2.2, 4.2), with zeros inserted (3.2), and a flag behind (3.1)
abbrev pub unit_bits : List ℕ → List Bool
unit_bits octets = text_after 0 (line_bits (sealed_text octets)) ++ flag

abbrev pub bits_in : List ℕ → List Bool
bits_in digits = map (λ digit. digit == 1) digits

-- AN EVENT is of the terminal of the link that it names, or else of user 0
abbrev pub asker : Event → Actor
asker (Event.Next link) = TerminalOf link
asker (Event.Heard link unit) = TerminalOf link
asker (Event.Up link) = TerminalOf link
asker (Event.Down link) = TerminalOf link
asker (Event.DownBlind link) = TerminalOf link
asker (Event.NoAnswer link) = TerminalOf link
asker (Event.Timed link) = TerminalOf link
asker (Event.Restore link) = TerminalOf link
asker (Event.Redeclare link) = TerminalOf link
asker (Event.BackTimeout link) = TerminalOf link
asker (Event.Test link) = TerminalOf link
asker _ = User 0

pub record Asks (event : Event) (old : ManagedState) (printed : List ℕ) (new : ManagedState) : Type 0 where
  pub answer : Answer
  pub step : IsStep old.bench.set (asker event) event answer new.bench.set
  pub links_are : new.bench.links ≡ old.bench.links
  pub kept_are : new.kept ≡ old.kept
  pub printed_is : printed ≡ answer_text Narrow answer

-- HOW A LINK STANDS
abbrev pub phase_name : Phase → List ℕ
phase_name Phase.Settled = codes "settled"
phase_name Phase.Up = codes "up"
phase_name Phase.Left = codes "left"

abbrev pub cause_or_0 : Option Cause → ℕ
cause_or_0 None = 0
cause_or_0 (Some cause) = cause_number cause

abbrev pub standing_words : ℕ → LinkWord → Phase → List ℕ
standing_words link word phase =
    codes "look " ++ (decimal link ++ (codes " " ++ (word_name word ++ (codes " phase=" ++ phase_name phase))))

abbrev pub counts_words : TurnCounts → List ℕ
counts_words counts =
    codes " turns=" ++ (decimal counts.turns ++ (codes " sent=" ++ (decimal counts.sent
    ++ (codes " good=" ++ (decimal counts.good ++ (codes " bad=" ++ (decimal counts.bad
    ++ (codes " sixteen=" ++ decimal counts.sixteen))))))))

abbrev pub look_text : ℕ → Phase → AtLink → List ℕ
look_text link phase at =
    standing_words link (word_of at.terminal) phase
    ++ (counts_words at.counts ++ (codes " cause=" ++ (decimal (cause_or_0 at.terminal.cause) ++ codes "\n")))

pub record Looks (link : ℕ) (old : ManagedState) (printed : List ℕ) (new : ManagedState) : Type 0 where
  pub at : AtLink
  pub is_at : slice_get old.bench.links link ≡ Some at
  pub printed_is : printed ≡ look_text link (phase_of link old.bench.set.state) at
  pub new_is : new ≡ old

-- LEVEL 3 MANAGES A LINK from now on, or no more: what it asks is told before the answer, with the turns that the link took.
-- It's refused where it's so already, with the number of Nothing.
abbrev pub turns_in : Option AtLink → ℕ
turns_in None = 0
turns_in (Some at) = at.counts.turns

-- so many turns a link took
abbrev pub turns_at : ℕ → ManagedState → ℕ
turns_at link old = turns_in (slice_get old.bench.links link)

abbrev pub managed_text : ℕ → ForgettingBench → List Deed → ManagedState → List ℕ
managed_text link old deeds new =
    deeds_lines link (turns_at link old.managed) deeds
    ++ (moved (turns_at link old.managed) old.streams new.bench.set.state ++ done_text)

abbrev pub ManagesBy : Bool → (ManagedState → List Deed → ManagedState → Type 0) → ℕ → ForgettingBench → List ℕ → ForgettingBench
    → Type 0
ManagesBy true carries link old printed new = (printed ≡ codes "refused 9\n") × (new ≡ old)
ManagesBy false carries link old printed new =
    (deeds : List Deed) × carries old.managed deeds new.managed × (printed ≡ managed_text link old deeds new.managed)
    × (new.plan ≡ old.plan) × (new.watches ≡ managed_by deeds link old.watches)
    × (new.streams ≡ told_again old.streams new.managed.bench.set.state)

-- the code beside the definition: these were asked of the end behind so many turns, and that is told and kept
pub record IsManaged (link turns : ℕ) (deeds : List Deed) (old : ForgettingBench) (printed : List ℕ) (new : ForgettingBench) : Type 0 where
  pub managed_is : new.managed ≡ old.managed
  pub plan_is : new.plan ≡ old.plan
  pub watches_are : new.watches ≡ managed_by deeds link old.watches
  pub streams_are : new.streams ≡ told_again old.streams old.managed.bench.set.state
  pub printed_is : printed ≡ deeds_lines link turns deeds ++ (moved turns old.streams old.managed.bench.set.state ++ done_text)

-- at the end itself; the checkpoints that nobody asks for stay as they are, and of who told links to stop this is kept
abbrev pub DoesAt : (ManagedState → List ℕ → ManagedState → Type 0) → List Watch → ForgettingBench → List ℕ → ForgettingBench → Type 0
DoesAt does watches old printed new =
    does old.managed printed new.managed × (new.plan ≡ old.plan) × (new.watches ≡ watches) × (new.streams ≡ old.streams)

-- the same where streams may run elsewhere by it: that is told before the answer, with this number of a turn
abbrev pub DoesTold : ℕ → (ManagedState → List ℕ → ManagedState → Type 0) → ForgettingBench → List ℕ → ForgettingBench → Type 0
DoesTold turn does old printed new =
    (own : List ℕ) × does old.managed own new.managed × (new.plan ≡ old.plan) × (new.watches ≡ old.watches)
    × (new.streams ≡ told_again old.streams new.managed.bench.set.state)
    × (printed ≡ moved turn old.streams new.managed.bench.set.state ++ own)

-- an event of a link's terminal comes behind its last turn; one of a user moves no stream
abbrev pub turn_at : Option ℕ → ManagedState → ℕ
turn_at None old = 0
turn_at (Some link) old = turns_at link old

-- STREAMS are told from now on, beginning with where they run; or no more
abbrev pub streams_told : Bool → ManagedState → Option (List ℕ)
streams_told true old = Some (places old.bench.set.state)
streams_told false old = None

-- A CHECKPOINT, and a history
abbrev pub Checkpoints : Bool → ManagedState → List ℕ → ManagedState → Type 0
Checkpoints quiet old printed new = (printed ≡ gone_text quiet old.bench.set.history ++ done_text) × (new ≡ checkpointed old)

abbrev pub TellsHistory : ManagedState → List ℕ → ManagedState → Type 0
TellsHistory old printed new = (printed ≡ entries_text Narrow old.bench.set.history ++ done_text) × (new ≡ old)

abbrev pub TellsCounts : ManagedState → List ℕ → ManagedState → Type 0
TellsCounts old printed new = (printed ≡ counts_text old.bench.set) × (new ≡ old)

-- the link of whose terminal an event is; None: it's a user's
abbrev pub link_of_event : Event → Option ℕ
link_of_event (Event.Next link) = Some link
link_of_event (Event.Heard link unit) = Some link
link_of_event (Event.Up link) = Some link
link_of_event (Event.Down link) = Some link
link_of_event (Event.DownBlind link) = Some link
link_of_event (Event.NoAnswer link) = Some link
link_of_event (Event.Timed link) = Some link
link_of_event (Event.Restore link) = Some link
link_of_event (Event.Redeclare link) = Some link
link_of_event (Event.BackTimeout link) = Some link
link_of_event (Event.Test link) = Some link
link_of_event _ = None

-- WHAT IS ASKED FOR is done: this is printed, and this is left
abbrev pub Does : Asked → ForgettingBench → List ℕ → ForgettingBench → Type 0
Does (Asked.Command link command) old printed new =
    DoesAt (CommandsBy (is_refused command link old.managed.bench) link command) (commanded_by command link old.watches) old printed new
Does (Asked.Activate link) old printed new =
    ManagesBy (is_on (slice_get old.managed.kept link)) (Activates link) link old printed new
Does (Asked.Deactivate link) old printed new =
    ManagesBy (not (is_on (slice_get old.managed.kept link))) (Deactivates link) link old printed new
Does (Asked.Octets link octets) old printed new = Exchanges link octets old printed new
Does (Asked.Hear link unit) old printed new = HearsLine link (over unit.times (unit_bits unit.octets)) old printed new
Does (Asked.Flags link times) old printed new = HearsLine link (over times flag) old printed new
Does (Asked.Bits link bits) old printed new = HearsLine link (over bits.times (bits_in bits.octets)) old printed new
Does (Asked.Event event) old printed new = DoesTold (turn_at (link_of_event event) old.managed) (Asks event) old printed new
Does (Asked.Look link) old printed new = DoesAt (Looks link) old.watches old printed new
Does (Asked.Checkpoint quiet) old printed new = DoesAt (Checkpoints quiet) old.watches old printed new
Does (Asked.Forget every told) old printed new =
    (printed ≡ done_text) × (new ≡ record { managed = old.managed; plan = from_now every told; watches = old.watches; streams = old.streams })
Does (Asked.Events on) old printed new =
    (printed ≡ done_text)
    × (new ≡ record { managed = old.managed; plan = old.plan; watches = old.watches; streams = streams_told on old.managed })
Does Asked.Counts old printed new = DoesAt TellsCounts old.watches old printed new
Does Asked.History old printed new = DoesAt TellsHistory old.watches old printed new

-- the link that is asked for, if one is
abbrev pub link_in : Asked → Option ℕ
link_in (Asked.Command link command) = Some link
link_in (Asked.Octets link octets) = Some link
link_in (Asked.Hear link unit) = Some link
link_in (Asked.Flags link times) = Some link
link_in (Asked.Bits link bits) = Some link
link_in (Asked.Event event) = link_of_event event
link_in (Asked.Look link) = Some link
link_in (Asked.Activate link) = Some link
link_in (Asked.Deactivate link) = Some link
link_in _ = None

abbrev pub is_below : ℕ → Option ℕ → Bool
is_below links None = true
is_below links (Some link) = nat_lt link links
