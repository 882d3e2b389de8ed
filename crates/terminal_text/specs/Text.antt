-- THE TEXT OF `terminal`: one end of a set, whose links' lines are elsewhere. Each line prints what it does, and how the end
-- stands comes behind the last.
use Rattle.std.specs.Prelude.{◌≡◌, ℕ, Bool, true, false, List, [], length, Option, Some, None}
use Rattle.std.specs.Option.{option_map}
use Rattle.text_entries.specs.Texts.{end_text}
use Rattle.l3_link.specs.declared.times.Times.{Times}
use Rattle.term_bench.specs.Ends.{BenchState, new_links}
use Rattle.term_managed.specs.Ends.{ManagedState, all_fresh}
use Rattle.l2_units.specs.declared.profile.Profile.{Profile}
use Rattle.l2_units.specs.declared.profile.Profile.TheVariants.{Narrow, Wide}
use Rattle.text_forms.specs.Opening.{first_line}
use Rattle.text_forms.specs.declared.opened.Values.{Values}
use Rattle.text_base.specs.Printing.{Printed}
use Rattle.set_model.specs.Checkpoint.{counts_in}
use Rattle.set_model.specs.History.{LinkSet, no_books}
use Rattle.set_model.specs.State.{Settings, opened_with}
use Rattle.term_model.specs.declared.timers.Timers.{Timers}
use Rattle.text_forms.specs.Asking.{asked_of}
use Rattle.text_forms.specs.Timers.{Lengths, lengths_of, timers_of}
use Rattle.text_forms.specs.Times.{LinkTimes, link_times_of, times_of}
use Rattle.text_forms.specs.declared.early.Early.{Early}
use Rattle.text_forms.specs.declared.asked.Asked.{Asked}
use Rattle.terminal_text.specs.Answers.{Does, is_below, link_in}
use Rattle.terminal_text.specs.Forgetting.{unasked}
use Rattle.terminal_text.specs.declared.forgetting.ForgettingBench.{ForgettingBench}
use Rattle.terminal_text.specs.declared.open_end.End.{End as EndState}
use Rattle.terminal_text.specs.declared.fault.TerminalFault.{TerminalFault}
use Rattle.terminal_text.specs.declared.fault.TerminalFault.TheVariants.{Step, Text}
use Rattle.text_lines.specs.Flaws.{flaw_of}
use Rattle.text_lines.specs.Lines.{LineOutcome, prints, stops}
use Rattle.text_lines.specs.Talks.{IsTalkText, TalkRules}
use Rattle.text_lines.specs.declared.flaw.LineFlaw.TheVariants.{Long}
use Rattle.pair_steps.specs.declared.step.End.TheVariants.{A}

-- An end is there once the first line has opened its set. Right behind that line the timers' lengths may be told, and level
-- 3's times there or behind the timers.
abbrev pub TerminalOutcome : Type 0
TerminalOutcome = LineOutcome (Option EndState) TerminalFault

-- its own point code is that of end a
abbrev pub settings_of : Values → Settings
settings_of v = record {
  set = 0;
  links = v.links;
  method = v.method;
  profile = Narrow;
  sio = v.sio;
  dpc = v.code_b;
  opc = v.code_a;
}

abbrev pub opened_set : Settings → LinkSet
opened_set settings = record {
  base = record { state = opened_with settings; books = no_books };
  state = opened_with settings;
  history = [];
}

abbrev pub opened_bench : Settings → Timers → BenchState
opened_bench settings lengths = record { set = opened_set settings; links = new_links lengths settings.links }

-- the lengths where no line tells them, in octet times: at 64 kbit/s 45 s, 50 s, 1.5 s, 0.1 s, 4 s and 1 s (Q.703 12.3)
abbrev pub usual : Lengths
usual = record { t1 = 360000; t2 = 400000; t3 = 12000; t5 = 800; t6 = 32000; t7 = 8000 }

-- those of level 3, in turns: 0.8 s, 1.4 s, 0.8 s, 0.8 s, 1 s, 8 s and 60 s (Q.704 16.8; Q.707)
abbrev pub usual_times : LinkTimes
usual_times = record { t1 = 6400; t2 = 11200; t4 = 6400; t5 = 6400; t17 = 8000; k1 = 64000; k2 = 480000 }

-- level 3 manages no link yet, and nobody asked for checkpoints
abbrev pub opened_end : BenchState → ℕ → Times → ManagedState
opened_end bench links times = record { bench = bench; kept = all_fresh times links }

-- an end is opened with timers of these lengths
pub record Opens (settings : Settings) (told : Lengths) (early : Early) (outcome : TerminalOutcome) : Type 0 where
  pub lengths : Timers
  pub times : Times
  pub lengths_are : timers_of lengths ≡ told
  pub times_are : times_of times ≡ usual_times
  pub outcome_is : outcome
      ≡ prints [] (Some (record { bench = unasked (opened_end (opened_bench settings lengths) settings.links times); early = early }))

-- the same of the end itself, whose timers are told
pub record IsOpenedAnew (lengths : Timers) (settings : Settings) (end : EndState) : Type 0 where
  pub times : Times
  pub times_are : times_of times ≡ usual_times
  pub end_is : end ≡ record { bench = unasked (opened_end (opened_bench settings lengths) settings.links times); early = Early.Times }

-- level 3 has these times
abbrev pub timed : Times → ForgettingBench → ForgettingBench
timed times old = record {
  managed = opened_end old.managed.bench (length old.managed.bench.links) times;
  plan = old.plan;
  watches = old.watches;
  streams = old.streams;
}

pub record SetsTimes (told : LinkTimes) (old : ForgettingBench) (outcome : TerminalOutcome) : Type 0 where
  pub times : Times
  pub times_are : times_of times ≡ told
  pub outcome_is : outcome
      ≡ prints [] (Some (record { bench = timed times old; early = Early.Over }))

-- THE FIRST LINE opens the end, of the narrow profile
abbrev pub MayOpenAs : Profile → ℕ → List ℕ → Values → TerminalOutcome → Type 0
MayOpenAs Narrow n line v outcome = Opens (settings_of v) usual Early.Both outcome
MayOpenAs Wide n line v outcome = outcome ≡ stops (Text n (flaw_of line))

abbrev pub MayOpen : ℕ → List ℕ → Option Values → TerminalOutcome → Type 0
MayOpen n line None outcome = outcome ≡ stops (Text n (flaw_of line))
MayOpen n line (Some v) outcome = MayOpenAs v.profile n line v outcome

-- A LATER LINE does what it asks for, of a link that is there
pub record IsDone (asked : Asked) (old : ForgettingBench) (outcome : TerminalOutcome) : Type 0 where
  pub printed : List ℕ
  pub new : ForgettingBench
  pub does : Does asked old printed new
  pub outcome_is : outcome ≡ prints printed (Some (record { bench = new; early = Early.Over }))

abbrev pub MayDoAt : Bool → ℕ → Asked → ForgettingBench → TerminalOutcome → Type 0
MayDoAt false n asked old outcome = outcome ≡ stops (Step n)
MayDoAt true n asked old outcome = IsDone asked old outcome

abbrev pub MayDo : ℕ → List ℕ → Option Asked → ForgettingBench → TerminalOutcome → Type 0
MayDo n line None old outcome = outcome ≡ stops (Text n (flaw_of line))
MayDo n line (Some asked) old outcome = MayDoAt (is_below (length old.managed.bench.links) (link_in asked)) n asked old outcome

-- right behind the first line the timers may be told, and level 3's times there or behind the timers
abbrev pub MayTime : ℕ → List ℕ → Option LinkTimes → ForgettingBench → TerminalOutcome → Type 0
MayTime n line None old outcome = MayDo n line (asked_of line) old outcome
MayTime n line (Some told) old outcome = SetsTimes told old outcome

abbrev pub MayFollow : ℕ → List ℕ → Option Lengths → Option LinkTimes → ForgettingBench → TerminalOutcome → Type 0
MayFollow n line None times old outcome = MayTime n line times old outcome
MayFollow n line (Some told) times old outcome = Opens old.managed.bench.set.base.state.settings told Early.Times outcome

abbrev pub told_lengths : Early → List ℕ → Option Lengths
told_lengths Early.Both line = lengths_of line
told_lengths _ line = None

abbrev pub told_times : Early → List ℕ → Option LinkTimes
told_times Early.Over line = None
told_times _ line = link_times_of line

abbrev pub MayRead : ℕ → Option EndState → List ℕ → TerminalOutcome → Type 0
MayRead n None line outcome = MayOpen n line (first_line line) outcome
MayRead n (Some end) line outcome =
    MayFollow n line (told_lengths end.early line) (told_times end.early line) end.bench outcome

-- which lines of lengths may come next; None before the first line
abbrev pub early_in : Option EndState → Option Early
early_in end = option_map (λ e. e.early) end

-- how the end stands
abbrev pub at_the_end : Option EndState → List ℕ
at_the_end None = []
at_the_end (Some end) = end_text A (counts_in end.bench.managed.bench.set.state)

abbrev pub terminal_rules : TalkRules (Option EndState) TerminalFault
terminal_rules = record {
  start = None;
  may = MayRead;
  at_the_end = at_the_end;
  unreadable = λ n. Text n Long;
}

-- THE TEXT: lines of at most 4,096 octets, counted from 1; a remark prints nothing (text_lines, specs/Talks.antt)
abbrev pub IsTerminalText : List ℕ → Printed TerminalFault → Type 0
IsTerminalText = IsTalkText terminal_rules

-- LAW: each input has a text
abbrev pub HasText : Type 0
HasText = (input : List ℕ) → (text : Printed TerminalFault) × IsTerminalText input text
