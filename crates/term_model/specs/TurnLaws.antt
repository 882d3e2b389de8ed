-- LAWS of a turn.
use Rattle.std.specs.Prelude.{◌≡◌, ◌↔◌, ℕ, ◌<◌, ◌≤◌, ◌^◌, ◌⊎◌, Bool, true, List, [], ◌∷◌, ◌++◌, Option, Some, None, ⊤}
use Rattle.l2_bits.specs.declared.marks.Mark.{Mark}
use Rattle.l2_state.specs.declared.link_state.State.{State}
use Rattle.set_events.specs.declared.answer.Answer.{Answer}
use Rattle.set_events.specs.declared.event.Actor.{Actor}
use Rattle.set_events.specs.declared.event.Event.{Event}
use Rattle.set_events.specs.declared.history.Entry.{Entry}
use Rattle.term_model.specs.Choosing.{Filled, filled}
use Rattle.term_model.specs.Hearing.{all_marked, marked, unit_in}
use Rattle.term_model.specs.Obeying.{commanded}
use Rattle.term_model.specs.OctetIn.{GivesMarks}
use Rattle.term_model.specs.OctetOut.{PutsOctet}
use Rattle.term_model.specs.Talk.{Went}
use Rattle.term_model.specs.TalkLaws.{AreAnswered}
use Rattle.term_model.specs.declared.command.Command.{Command}
use Rattle.term_model.specs.declared.timers.Timers.{Timers}
use Rattle.term_model.specs.Terminal.{Terminal, opened, told}
use Rattle.term_model.specs.Timing.{timed}
use Rattle.term_model.specs.Turn.{IsTurn, IsWideTurn}

-- THE STEPS. Each step by itself, one after another: what each asked, and the terminal after it.
pub record IsSixSteps (taken : List Bool) (before : Terminal) (octet : Option ℕ) (entries : List Entry)
    (put : List ℕ) (marks : List Mark) (after : Terminal) : Type 0 where
  pub first : List Entry
  pub third : List Entry
  pub fourth : List Entry
  pub fifth : List Entry
  pub entries_are : entries ≡ first ++ third ++ fourth ++ fifth
  pub obeyed : Terminal
  pub heard : Terminal
  pub clocked : Terminal
  pub chosen : Filled
  pub step_1 : Went (commanded before) first obeyed
  pub step_2 : GivesMarks taken octet marks
  pub step_3 : Went (all_marked marks obeyed) third heard
  pub step_4 : Went (timed heard) fourth clocked
  pub step_5 : Went (filled clocked) fifth chosen
  pub narrow : chosen.narrow ≡ true
  pub step_6 : PutsOctet chosen put after

-- LAW: a turn is its six steps, one after another
abbrev pub TurnIsItsSteps : Type 0
TurnIsItsSteps =
    (taken : List Bool) (before : Terminal) (octet : Option ℕ) (entries : List Entry) (put : List ℕ)
    (marks : List Mark) (after : Terminal)
    → IsTurn taken before octet entries put marks after ↔ IsSixSteps taken before octet entries put marks after

-- LAW: what was taken and put, and the door's answers, decide a turn: its marks and the terminal after it
abbrev pub OneTurn : Type 0
OneTurn =
    (taken : List Bool) (before : Terminal) (octet : Option ℕ) (entries : List Entry) (put : List ℕ)
    (a b : List Mark) (x y : Terminal)
    → IsTurn taken before octet entries put a x → IsTurn taken before octet entries put b y → (a ≡ b) × (x ≡ y)

-- a turn whose entries have the answers of this door
pub record HasTurn (taken : List Bool) (before : Terminal) (octet : Option ℕ) (marks : List Mark)
    (door : List Entry → Event → Answer) (who : Actor) (past : List Entry) : Type 0 where
  pub entries : List Entry
  pub put : List ℕ
  pub after : Terminal
  pub turn : IsTurn taken before octet entries put marks after
  pub are_answered : AreAnswered door who past entries

-- or one that a unit of the wide profile ended
pub record HasWideTurn (taken : List Bool) (before : Terminal) (octet : Option ℕ)
    (door : List Entry → Event → Answer) (who : Actor) (past : List Entry) : Type 0 where
  pub entries : List Entry
  pub turn : IsWideTurn taken before octet entries
  pub are_answered : AreAnswered door who past entries

-- LAW: whatever the door answers, there is a turn, if it gives no unit of the wide profile
abbrev pub TurnsGoOn : Type 0
TurnsGoOn =
    (taken : List Bool) (before : Terminal) (octet : Option ℕ) (marks : List Mark)
    (door : List Entry → Event → Answer) (who : Actor) (past : List Entry)
    → GivesMarks taken octet marks
    → HasTurn taken before octet marks door who past ⊎ HasWideTurn taken before octet door who past

-- WHAT IS ASKED.

-- each event that was asked is such
abbrev pub AllAsked : (Event → Type 0) → List Entry → Type 0
AllAsked such [] = ⊤
AllAsked such (entry ∷ entries) = such entry.event × AllAsked such entries

-- a terminal asks of its own link, and five things alone
abbrev pub IsOfLink : ℕ → Event → Type 0
IsOfLink link (Event.Up l) = l ≡ link
IsOfLink link (Event.Down l) = l ≡ link
IsOfLink link (Event.DownBlind l) = l ≡ link
IsOfLink link (Event.Heard l unit) = l ≡ link
IsOfLink link (Event.Next l) = l ≡ link
IsOfLink link _ = ⊥

-- Down and DownBlind alone
abbrev pub IsDown : Event → Type 0
IsDown (Event.Down l) = ⊤
IsDown (Event.DownBlind l) = ⊤
IsDown _ = ⊥

-- LAW: a damaged unit isn't heard: a mark that brings no readable unit is told to a monitor alone, and all that can
-- come of it at the set is that the link fails
abbrev pub DamagedIsNotHeard : Type 0
DamagedIsNotHeard =
    (mark : Mark) (before after : Terminal) (entries : List Entry) → unit_in mark ≡ None
    → Went (marked mark before) entries after → AllAsked IsDown entries

-- WHAT STAYS.

-- octet times left are at most this
abbrev pub IsWithin : ℕ → Option ℕ → Type 0
IsWithin length None = ⊤
IsWithin length (Some left) = left ≤ length

abbrev pub IsInService : State → Type 0
IsInService (State.InService paused) = ⊤
IsInService _ = ⊥

-- no timer has more left than it was started with; the FSN last sent is one; and the link is up at the set only in
-- service
pub record IsSound (t : Terminal) : Type 0 where
  pub t1 : IsWithin t.lengths.t1 t.clocks.t1
  pub t2 : IsWithin t.lengths.t2 t.clocks.t2
  pub t3 : IsWithin t.lengths.t3 t.clocks.t3
  pub t4 : IsWithin 65536 t.clocks.t4
  pub t5 : IsWithin t.lengths.t5 t.clocks.t5
  pub t6 : IsWithin t.lengths.t6 t.clocks.t6
  pub t7 : IsWithin t.lengths.t7 t.clocks.t7
  pub top : t.top < 2 ^ 7
  pub served : t.up ≡ true → IsInService t.state

-- the same link with the same timers, and sound
pub record GoesOn (before after : Terminal) : Type 0 where
  pub link_is : after.link ≡ before.link
  pub lengths_are : after.lengths ≡ before.lengths
  pub sound : IsSound after

-- what a turn of a sound terminal asks and leaves
pub record IsSoundTurn (before : Terminal) (entries : List Entry) (after : Terminal) : Type 0 where
  pub of_link : AllAsked (IsOfLink before.link) entries
  pub goes_on : GoesOn before after

-- LAW: a turn asks of its own link alone, and a terminal stays sound
abbrev pub TurnsStaySound : Type 0
TurnsStaySound =
    (taken : List Bool) (before : Terminal) (octet : Option ℕ) (entries : List Entry) (put : List ℕ)
    (marks : List Mark) (after : Terminal)
    → IsSound before → IsTurn taken before octet entries put marks after → IsSoundTurn before entries after

-- LAW: a new terminal is sound, and a command leaves it so
pub record StartsSound (link : ℕ) (lengths : Timers) : Type 0 where
  pub opened_sound : IsSound (opened link lengths)
  pub told_sound : (command : Command) (t : Terminal) → IsSound t → GoesOn t (told command t)

abbrev pub TerminalsStartSound : Type 0
TerminalsStartSound = (link : ℕ) (lengths : Timers) → StartsSound link lengths
