-- HOW LONG A LINK NEEDS TO COME UP: a proving period at least (Q.703 7.4).
use Rattle.std.specs.Prelude.{◌≡◌, ◌≤◌, ◌<◌, ◌^◌, ℕ, ◌+◌, Bool, true, false, List, [], ◌∷◌, length, Option, Some, None, ⊤}
use Rattle.l2_align.specs.declared.align.State.{State as AlignState}
use Rattle.l2_state.specs.declared.link_state.State.{State}
use Rattle.term_model.specs.declared.command.Command.{Command}
use Rattle.term_model.specs.Runs.{Doing, AreTurns, entries_of}
use Rattle.term_model.specs.Terminal.{Terminal, opened, told}
use Rattle.term_model.specs.declared.timers.Timers.{Timers}

-- the link is out of service, or aligning
abbrev pub is_before : State → Bool
is_before State.OutOfService = true
is_before State.Aligning = true
is_before State.Ready = false
is_before (State.InService paused) = false

abbrev pub is_proving : AlignState → Bool
is_proving AlignState.Idle = false
is_proving AlignState.NotAligned = false
is_proving AlignState.Aligned = false
is_proving AlignState.Proving = true

-- so many turns are left of a proving period, where one runs
abbrev pub HasLeft : ℕ → Option ℕ → Type 0
HasLeft n None = ⊤
HasLeft n (Some left) = n ≤ left

-- the link isn't ready, and won't be for so many turns
pub record Waits (n : ℕ) (t : Terminal) : Type 0 where
  pub before : is_before t.state ≡ true
  pub down : t.up ≡ false
  pub left : is_proving t.align.state ≡ true → HasLeft n t.clocks.t4

-- what turns of such a terminal leave, and that they ask nothing
pub record WaitedOn (n : ℕ) (doings : List Doing) (after : Terminal) : Type 0 where
  pub waits : Waits n after
  pub asks_nothing : entries_of doings ≡ []

-- a link that is out of service, and isn't aligning, waits for a whole period; and a command changes nothing of that
pub record AlignmentTakesItsTime : Type 0 where
  pub opened_waits : (link : ℕ) (lengths : Timers) → Waits 4096 (opened link lengths)
  pub out_waits : (t : Terminal) → t.state ≡ State.OutOfService → t.align.state ≡ AlignState.Idle → t.up ≡ false
      → Waits 4096 t
  pub told_waits : (n : ℕ) (command : Command) (t : Terminal) → Waits n t → Waits n (told command t)
  pub turns_wait : (doings : List Doing) (n : ℕ) (taken : List Bool) (before after : Terminal) → 1 ≤ n
      → length doings + n ≤ 4096 → Waits (length doings + n) before → AreTurns doings taken before after
      → WaitedOn n doings after
