-- WHAT A TURN ASKS OF THE SET, by where the link stands and by the units that are heard: of an end that isn't busy and has
-- no processor outage, and whose far end sends SIO, SIN, SIE and SIOS alone (Q.703 8, 12).
use Rattle.std.specs.Prelude.{◌≡◌, ℕ, Bool, true, false, List, [], ◌∷◌, ◌++◌, Option, Some, None}
use Rattle.l2_align.specs.declared.align.State.{State as AlignState}
use Rattle.l2_bits.specs.declared.marks.Mark.{Mark}
use Rattle.l2_state.specs.declared.link_state.State.{State as LinkPhase}
use Rattle.l2_state.specs.Table.{is_paused}
use Rattle.l2_units.specs.declared.unit.Unit.{Unit as SignalUnit}
use Rattle.set_events.specs.declared.answer.Answer.{Answer}
use Rattle.set_events.specs.declared.answer.Refusal.{Refusal}
use Rattle.set_events.specs.declared.event.Event.{Event}
use Rattle.set_events.specs.declared.history.Entry.{Entry}
use Rattle.term_model.specs.Choosing.{Filled}
use Rattle.term_model.specs.Hearing.{unit_in}
use Rattle.term_model.specs.Talk.{Went}
use Rattle.term_model.specs.Terminal.{Terminal, no_commands, start_head}
use Rattle.term_model.specs.Turn.{turn_talk}
use Rattle.term_asks.specs.Plain.{is_plain, IsPlainUnit}

-- WHERE A LINK STANDS: out of service, aligning, or ready; in service, while the set refuses Up; or in service, and up
-- at the set
pub data Standing : Type 0 where
  out : Standing
  aligning : Standing
  ready : Standing
  waiting : Standing
  served : Standing

abbrev pub standing_in : LinkPhase → Bool → Standing
standing_in LinkPhase.OutOfService up = out
standing_in LinkPhase.Aligning up = aligning
standing_in LinkPhase.Ready up = ready
standing_in (LinkPhase.InService paused) true = served
standing_in (LinkPhase.InService paused) false = waiting

abbrev pub standing_of : Terminal → Standing
standing_of t = standing_in t.state t.up

-- IT STAYS WHERE IT STANDS, OR FALLS: then it's out of service, and the set is told so where the link was up there
pub data Falls (link : ℕ) (s s' : Standing) (entries : List Entry) : Type 0 where
  stays : s' ≡ s → entries ≡ [] → Falls link s s' entries
  drops : (s ≡ served → ⊥) → s' ≡ out → entries ≡ [] → Falls link s s' entries
  tells : (entry : Entry) → s ≡ served → s' ≡ out → entries ≡ entry ∷ [] → entry.event ≡ Event.Down link → Falls link s s' entries

-- one thing is asked, and then it stays or falls
pub record Then (link : ℕ) (event : Event) (by : Answer → Standing) (s' : Standing) (entries : List Entry) : Type 0 where
  pub entry : Entry
  pub later : List Entry
  pub entries_are : entries ≡ entry ∷ later
  pub asked : entry.event ≡ event
  pub falls : Falls link (by entry.answer) s' later

-- COMMANDS: alignment begins where the link is out of service, if so commanded
pub data Obeys (link : ℕ) (started : Bool) (s s' : Standing) (entries : List Entry) : Type 0 where
  only_falls : Falls link s s' entries → Obeys link started s s' entries
  begins : started ≡ true → s ≡ out → s' ≡ aligning → entries ≡ [] → Obeys link started s s' entries

-- TIMERS: a proving period ends
pub data Times (link : ℕ) (s s' : Standing) (entries : List Entry) : Type 0 where
  goes_on : Falls link s s' entries → Times link s s' entries
  completes : s ≡ aligning → s' ≡ ready → entries ≡ [] → Times link s s' entries

-- A UNIT THAT IS HEARD. One that is ready comes up by a FISU or an MSU, if the set says Done
abbrev pub risen_by : Answer → Standing
risen_by Answer.Done = served
risen_by _ = waiting

abbrev pub is_status : SignalUnit → Bool
is_status (SignalUnit.Lssu head status) = true
is_status _ = false

pub data Rises (link : ℕ) (unit : SignalUnit) (s s' : Standing) (entries : List Entry) : Type 0 where
  not_yet : s' ≡ s → entries ≡ [] → Rises link unit s s' entries
  comes_up : (entry : Entry) → is_status unit ≡ false → s ≡ ready → entries ≡ entry ∷ [] → entry.event ≡ Event.Up link
      → s' ≡ risen_by entry.answer → Rises link unit s s' entries

-- and where it's up at the set then, so does the set hear it, if it's no status; it stops where the set says that the
-- link isn't up
abbrev pub heard_by : Answer → Standing
heard_by (Answer.Refused Refusal.NotUp) = out
heard_by _ = served

pub data Hears (link : ℕ) (unit : SignalUnit) (s s' : Standing) (entries : List Entry) : Type 0 where
  passes : (s ≡ served → ⊥) → s' ≡ s → entries ≡ [] → Hears link unit s s' entries
  is_heard : s ≡ served → is_status unit ≡ false → Then link (Event.Heard link unit) heard_by s' entries → Hears link unit s s' entries

pub record HearsUnit (link : ℕ) (unit : SignalUnit) (s s' : Standing) (entries : List Entry) : Type 0 where
  pub judged : Standing
  pub risen : Standing
  pub first : List Entry
  pub second : List Entry
  pub third : List Entry
  pub entries_are : entries ≡ first ++ (second ++ third)
  pub falls : Falls link s judged first
  pub rises : Rises link unit judged risen second
  pub hears : Hears link unit risen s' third

-- nothing is heard of a mark that brings no unit
abbrev pub HearsOne : ℕ → Option SignalUnit → Standing → Standing → List Entry → Type 0
HearsOne link None s s' entries = Falls link s s' entries
HearsOne link (Some unit) s s' entries = HearsUnit link unit s s' entries

abbrev pub HearsAll : ℕ → List Mark → Standing → Standing → List Entry → Type 0
HearsAll link [] s s' entries = (s' ≡ s) × (entries ≡ [])
HearsAll link (mark ∷ marks) s s' entries =
    (mid : Standing) × (first : List Entry) × (second : List Entry) × (entries ≡ first ++ second)
    × HearsOne link (unit_in mark) s mid first × HearsAll link marks mid s' second

-- WHAT IS SENT NEXT: what isn't the set's is the FISU of an end that sent and accepted nothing, where the link is ready
-- or waits, and else a status
abbrev pub IsStartFisu : SignalUnit → Type 0
IsStartFisu (SignalUnit.Fisu head) = head ≡ start_head
IsStartFisu _ = ⊥

abbrev pub IsPlainStatus : SignalUnit → Type 0
IsPlainStatus (SignalUnit.Lssu head status) = is_plain status ≡ true
IsPlainStatus _ = ⊥

abbrev pub IsIdleUnit : Standing → SignalUnit → Type 0
IsIdleUnit ready unit = IsStartFisu unit
IsIdleUnit waiting unit = IsStartFisu unit
IsIdleUnit _ unit = IsPlainStatus unit

abbrev pub IsIdleOne : Standing → Option SignalUnit → Type 0
IsIdleOne s None = ⊥
IsIdleOne s (Some unit) = IsIdleUnit s unit

-- a link that isn't up though in service asks for Up first
pub data AsksUp (link : ℕ) (s s' : Standing) (entries : List Entry) : Type 0 where
  asks_nothing : (s ≡ waiting → ⊥) → s' ≡ s → entries ≡ [] → AsksUp link s s' entries
  asks_again : (entry : Entry) → s ≡ waiting → entries ≡ entry ∷ [] → entry.event ≡ Event.Up link → s' ≡ risen_by entry.answer
      → AsksUp link s s' entries

-- by what the set answers to Next: its unit goes out; or the link stops, and a status does; or some FISU goes out
abbrev pub GivesUnit : Answer → Option SignalUnit → Type 0
GivesUnit (Answer.Sent given) unit = unit ≡ Some given
GivesUnit (Answer.Refused Refusal.NotUp) unit = IsIdleOne out unit
GivesUnit _ unit = Unit {0}

pub data Serves (link : ℕ) (s s' : Standing) (entries : List Entry) (unit : Option SignalUnit) : Type 0 where
  idles : (s ≡ served → ⊥) → s' ≡ s → entries ≡ [] → IsIdleOne s unit → Serves link s s' entries unit
  gives : (entry : Entry) (later : List Entry) → s ≡ served → entries ≡ entry ∷ later → entry.event ≡ Event.Next link
      → GivesUnit entry.answer unit → Falls link (heard_by entry.answer) s' later → Serves link s s' entries unit

pub record ServesOne (link : ℕ) (s s' : Standing) (entries : List Entry) (unit : Option SignalUnit) : Type 0 where
  pub risen : Standing
  pub first : List Entry
  pub second : List Entry
  pub entries_are : entries ≡ first ++ second
  pub asks : AsksUp link s risen first
  pub serves : Serves link risen s' second unit

pub data Chooses (link : ℕ) (s s' : Standing) (entries : List Entry) (unit : Option SignalUnit) : Type 0 where
  has_bits : s' ≡ s → entries ≡ [] → unit ≡ None → Chooses link s s' entries unit
  chooses_one : ServesOne link s s' entries unit → Chooses link s s' entries unit

-- THE TURN: by whether it was told to start, and to stop
pub record AsksSo (link : ℕ) (started stopped : Bool) (marks : List Mark) (s s' : Standing) (entries : List Entry) (unit : Option SignalUnit)
    : Type 0 where
  pub obeyed : Standing
  pub heard : Standing
  pub timed : Standing
  pub first : List Entry
  pub third : List Entry
  pub fourth : List Entry
  pub fifth : List Entry
  pub entries_are : entries ≡ first ++ (third ++ (fourth ++ fifth))
  pub obeys : Obeys link started s obeyed first
  pub stops : stopped ≡ true → obeyed ≡ out
  pub hears : HearsAll link marks obeyed heard third
  pub times : Times link heard timed fourth
  pub chooses : Chooses link timed s' fifth unit

-- its alignment was complete
abbrev pub is_aligned : LinkPhase → Bool
is_aligned LinkPhase.OutOfService = false
is_aligned LinkPhase.Aligning = false
is_aligned LinkPhase.Ready = true
is_aligned (LinkPhase.InService paused) = true

-- OF SUCH A TERMINAL: it's up at the set in service alone, aligns nowhere while it's out of service, nor once it's
-- aligned, and isn't busy and has no processor outage, nor is told so, nor told to fall blindly
pub record IsOrdinary (t : Terminal) : Type 0 where
  pub served : t.up ≡ true → standing_of t ≡ served
  pub idle : t.state ≡ LinkPhase.OutOfService → t.align.state ≡ AlignState.Idle
  pub aligned : is_aligned t.state ≡ true → t.align.state ≡ AlignState.Idle
  pub paused : is_paused t.state ≡ false
  pub busy : t.flow.busy ≡ false
  pub due : t.b_due ≡ false
  pub status : is_plain t.status ≡ true
  pub blind : t.blind ≡ false
  pub outage : t.outage ≡ false

pub record IsCommandedSo (t : Terminal) : Type 0 where
  pub busy : t.commands.busy ≡ false
  pub blind : t.commands.blind ≡ false
  pub outage : t.commands.outage ≡ false

abbrev pub IsPlainOne : Option SignalUnit → Type 0
IsPlainOne None = Unit {0}
IsPlainOne (Some unit) = IsPlainUnit unit

abbrev pub ArePlain : List Mark → Type 0
ArePlain [] = Unit {0}
ArePlain (mark ∷ marks) = IsPlainOne (unit_in mark) × ArePlain marks

-- the set gives no status
abbrev pub IsPlainAnswer : Answer → Type 0
IsPlainAnswer (Answer.Sent unit) = IsPlainUnit unit
IsPlainAnswer _ = Unit {0}

abbrev pub AnswersPlainly : List Entry → Type 0
AnswersPlainly [] = Unit {0}
AnswersPlainly (entry ∷ entries) = IsPlainAnswer entry.answer × AnswersPlainly entries

-- LAW: such a turn leaves such a terminal, of the same link, and no command waits then
pub record IsOrdinaryTurn (marks : List Mark) (t : Terminal) (entries : List Entry) (chosen : Filled) : Type 0 where
  pub asks : AsksSo t.link t.commands.start t.commands.stop marks (standing_of t) (standing_of chosen.after) entries chosen.unit
  pub after : IsOrdinary chosen.after
  pub link_is : chosen.after.link ≡ t.link
  pub quiet : chosen.after.commands ≡ no_commands

abbrev pub TurnsAskSo : Type 0
TurnsAskSo =
    (marks : List Mark) (t : Terminal) (entries : List Entry) (chosen : Filled) → IsOrdinary t → IsCommandedSo t → ArePlain marks
    → AnswersPlainly entries → Went (turn_talk marks t) entries chosen → chosen.narrow ≡ true → IsOrdinaryTurn marks t entries chosen
