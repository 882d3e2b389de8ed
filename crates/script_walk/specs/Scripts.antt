-- A SCRIPT OF TWO ENDS: from the octets that are read to what is told of it and the fault that it ends with.
use Rattle.std.specs.Prelude.{ℕ, List, [], Option, Some, None}
use Rattle.script_walk.specs.declared.fault.ScriptFault.{ScriptFault}
use Rattle.script_walk.specs.declared.fault.ScriptFault.TheVariants.{Text, Step, Exhausted}
use Rattle.l2_units.specs.declared.profile.Profile.{Profile}
use Rattle.set_model.specs.State.{Settings, opened_with}
use Rattle.set_model.specs.History.{LinkSet, no_books}
use Rattle.pair_steps.specs.declared.step.End.{End}
use Rattle.pair_steps.specs.declared.step.End.TheVariants.{A, B}
use Rattle.pair_steps.specs.declared.step.Shown.{Shown}
use Rattle.pair_steps.specs.declared.step.Shown.TheVariants.{Answered}
use Rattle.set_events.specs.declared.answer.Answer.TheVariants.{Sent}
use Rattle.pair_model.specs.World.{World, Outcome, shows, impossible, exhausted, world_of}
use Rattle.pair_rises.specs.declared.moves.Move.{Move}
use Rattle.pair_rises.specs.declared.moves.Move.TheVariants.{Step as MoveStep, Rise, Fill}
use Rattle.pair_rises.specs.Rises.{idle_at, moved}
use Rattle.text_forms.specs.declared.opened.Values.{Values}
use Rattle.text_forms.specs.Moves.{move_of}
use Rattle.text_forms.specs.Opening.{first_line}
use Rattle.text_base.specs.Printing.{Printed}
use Rattle.text_lines.specs.declared.flaw.LineFlaw.TheVariants.{Long}
use Rattle.text_lines.specs.Flaws.{flaw_of}
use Rattle.text_lines.specs.Lines.{LineOutcome, Rules, prints, stops, IsLinesText}

-- WHAT IS TOLD of a script: of the world that its first line makes; on the line of a number, of the world before its
-- move, the move, what it showed and the world that it left; and of the world behind the last line, if a line has
-- made one.
pub record Told : Type 0 where
  pub opening : World → List ℕ
  pub step : ℕ → World → Move → Shown → World → List ℕ
  pub at_the_end : Option World → List ℕ

-- A line of a script leaves a world, if one is made yet.
abbrev pub ScriptOutcome : Type 0
ScriptOutcome = LineOutcome (Option World) ScriptFault

-- what each end is opened with: its own point code is the far end's for the other
abbrev pub settings_at : Values → End → Settings
settings_at v A = record {
  set = 0;
  links = v.links;
  method = v.method;
  profile = v.profile;
  sio = v.sio;
  dpc = v.code_b;
  opc = v.code_a;
}
settings_at v B = record {
  set = 0;
  links = v.links;
  method = v.method;
  profile = v.profile;
  sio = v.sio;
  dpc = v.code_a;
  opc = v.code_b;
}

-- a set that nothing was asked of
abbrev pub opened_set : Settings → LinkSet
opened_set settings =
    record {
      base = record { state = opened_with settings; books = no_books };
      state = opened_with settings;
      history = [];
    }

-- two ends that nothing was asked of
abbrev pub opened_world : Values → World
opened_world v = world_of (opened_set (settings_at v A)) (opened_set (settings_at v B))

-- the profile of a world: what its ends were opened with
abbrev pub profile_of : World → Profile
profile_of w = w.a.base.state.settings.profile

-- the first line that is no remark makes the world
abbrev pub opened : Told → ℕ → List ℕ → Option Values → ScriptOutcome
opened t n text None = stops (Text n (flaw_of text))
opened t n text (Some v) = prints (t.opening (opened_world v)) (Some (opened_world v))

-- what a move is told to have shown in the world that it left: of a fill, of which the end's set knows nothing, that the
-- unit was sent
abbrev pub told_of : Move → Shown → World → Shown
told_of (MoveStep step) shown w = shown
told_of (Rise end link) shown w = shown
told_of (Fill end link) shown w = Answered (Sent (idle_at w end))

-- each further one asks for a move, which is made
abbrev pub outcome_of : Told → ℕ → World → Move → Outcome → ScriptOutcome
outcome_of t n before move (shows s w) = prints (t.step n before move (told_of move s w) w) (Some w)
outcome_of t n before move impossible = stops (Step n)
outcome_of t n before move exhausted = stops Exhausted

abbrev pub asked : Told → ℕ → World → List ℕ → Option Move → ScriptOutcome
asked t n w text None = stops (Text n (flaw_of text))
asked t n w text (Some move) = outcome_of t n w move (moved w move)

abbrev pub read_script : Told → ℕ → Option World → List ℕ → ScriptOutcome
read_script t n None text = opened t n text (first_line text)
read_script t n (Some w) text = asked t n w text (move_of (profile_of w) text)

abbrev pub script_rules : Told → Rules (Option World) ScriptFault
script_rules t = record {
  start = None;
  on_line = read_script t;
  at_the_end = t.at_the_end;
  unreadable = λ n. Text n Long;
}

-- THE TEXT: lines of at most 4,096 octets, counted from 1; a remark tells nothing (text_lines, specs/Lines.antt)
abbrev pub IsScriptText : Told → List ℕ → Printed ScriptFault → Type 0
IsScriptText t = IsLinesText (script_rules t)
