-- The line that opens an end.
use Rattle.std.proofs.Common.{refl, sym, ap, subst, arith, ◌≡◌, ◌∙◌, ◌<◌, ◌≤◌, nat_lt, ℕ, Bool, true, false, ◌++◌, List, [], append-nil, Option, Some, Result, Ok, Err, MatchResult}
use Rattle.std.proofs.lemmas.Bool.Decides.{nat_tests}
use Rattle.std.specs.Option.{option_map}
use Rattle.std.specs.Result.{result_map_both, result_ok}
use Rattle.text_base.specs.declared.fault.Stop.{Stop}
use Rattle.text_forms.specs.Words.{Read}
use Rattle.text_forms.specs.declared.words.Blame.{Blame}
use Rattle.text_base.specs.declared.fault.Stop.TheVariants.{Memory}
use Rattle.set_events.specs.declared.event.Event.{Event}
use Rattle.set_model.specs.History.{IsActor}
use Rattle.l3_link.specs.declared.times.Times.{Times}
use Rattle.term_managed.specs.Ends.{ManagedState, new_managed}
use Rattle.l2_units.specs.declared.profile.Profile.{Profile}
use Rattle.l2_units.specs.declared.profile.Profile.TheVariants.{Narrow}
use Rattle.text_forms.specs.Opened.{IsEnd, IsOpening}
use Rattle.text_forms.specs.Opening.{first_line}
use Rattle.text_forms.specs.declared.opened.Opening.{Opening}
use Rattle.text_forms.specs.declared.opened.Values.{Values}
use Rattle.set_events.specs.declared.config.SetConfig.{SetConfig}
use Rattle.set_events.specs.declared.config.Method.{Method}
use Rattle.set_model.specs.State.{Settings, settings_of as settings_in}
use Rattle.term_model.specs.declared.timers.Timers.{Timers}
use Rattle.text_forms.specs.Timers.{Lengths, timers_of}
use Rattle.text_forms.specs.Times.{LinkTimes, times_of}
use Rattle.text_forms.specs.declared.early.Early.{Early}
use Rattle.terminal_text.specs.Answers.{asker, is_below, link_of_event}
use Rattle.terminal_text.specs.Forgetting.{unasked}
use Rattle.terminal_text.specs.declared.forgetting.ForgettingBench.{ForgettingBench}
use Rattle.terminal_text.specs.Text.{IsOpenedAnew, MayDoAt, MayFollow, MayOpen, MayOpenAs, MayRead, MayTime, Opens, TerminalOutcome, opened_bench, opened_end, settings_of, timed, told_lengths, told_times, usual, usual_times}
use Rattle.terminal_text.specs.declared.fault.TerminalFault.{TerminalFault}
use Rattle.terminal_text.specs.declared.open_end.End.{End as EndState}
use Rattle.text_lines.specs.Talking.{IsCarriedOut, MayDo as MayPrint, MayTell}
use Rattle.terminal_text.specs.Answers.{Does}
use Rattle.text_forms.specs.declared.asked.Asked.{Asked}
use Rattle.text_lines.specs.Lines.{prints}

same_settings : (a b : Settings) → a.set ≡ b.set → a.links ≡ b.links → a.method ≡ b.method → a.profile ≡ b.profile → a.sio ≡ b.sio
    → a.dpc ≡ b.dpc → a.opc ≡ b.opc → a ≡ b
same_settings a b set links method profile sio dpc opc =
    ap (λ (n : ℕ). record a { set = n }) set
    ∙ ap (λ (n : ℕ). record a { set = b.set; links = n }) links
    ∙ ap (λ (m : Method). record a { set = b.set; links = b.links; method = m }) method
    ∙ ap (λ (p : Profile). record a { set = b.set; links = b.links; method = b.method; profile = p }) profile
    ∙ ap (λ (n : ℕ). record b { sio = n; dpc = a.dpc; opc = a.opc }) sio
    ∙ ap (λ (n : ℕ). record b { dpc = n; opc = a.opc }) dpc
    ∙ ap (λ (n : ℕ). record b { opc = n }) opc

-- the configuration of end a is told by the values
settings_are : (v : Values) (config : SetConfig) → IsEnd v v.code_a v.code_b config → config.profile ≡ Narrow
    → settings_in config ≡ settings_of v
settings_are v config e narrow =
    same_settings (settings_in config) (settings_of v) e.set_is e.links_is e.method_is narrow e.sio_is e.dpc_is e.opc_is

open_as : (profile : Profile) (n : ℕ) (line : List ℕ) (v : Values) (outcome : TerminalOutcome) → profile ≡ Narrow
    → Opens (settings_of v) usual Early.Both outcome → MayOpenAs profile n line v outcome
open_as profile n line v outcome e opens = subst (λ (p : Profile). MayOpenAs p n line v outcome) (sym e) opens

-- an end that is made for this configuration
same_opened : (v : Values) (config : SetConfig) (lengths : Timers) (times : Times) (bench : ManagedState)
    → settings_in config ≡ settings_of v → bench ≡ new_managed config lengths times
    → bench ≡ opened_end (opened_bench (settings_of v) lengths) (settings_of v).links times
same_opened v config lengths times bench same made =
    made ∙ ap (λ (s : Settings). opened_end (opened_bench s lengths) s.links times) same

pub opens_narrow : (n : ℕ) (line : List ℕ) (opening : Opening) (lengths : Timers) (times : Times) (bench : ManagedState)
    → IsOpening line opening → opening.a.profile ≡ Narrow → timers_of lengths ≡ usual → times_of times ≡ usual_times
    → bench ≡ new_managed opening.a lengths times
    → MayOpen n line (first_line line) (prints [] (Some (record { bench = unasked bench; early = Early.Both })))
opens_narrow n line opening lengths times bench is narrow told set made =
    let v = is.values in
    let same = same_opened v opening.a lengths times bench (settings_are v opening.a is.made.end_a narrow) made in
    subst (λ (found : Option Values). MayOpen n line found (prints [] (Some (record { bench = unasked bench; early = Early.Both })))) (sym is.read)
    (open_as v.profile n line v (prints [] (Some (record { bench = unasked bench; early = Early.Both })))
    (sym is.made.end_a.profile_is ∙ narrow) (record {
      lengths = lengths;
      times = times;
      lengths_are = told;
      times_are = set;
      outcome_is = ap (λ (b : ManagedState). prints [] (Some (record { bench = unasked b; early = Early.Both }))) same;
    }))

-- The lines of lengths.

pub timers_told : (result : Result (Unit {0}) (Stop TerminalFault)) (n : ℕ) (old new : EndState) (line out : List ℕ) (lengths : Timers)
    → told_lengths old.early line ≡ Some (timers_of lengths)
    → MatchResult result (λ done. IsOpenedAnew lengths old.bench.managed.bench.set.base.state.settings new) (λ stop. stop ≡ Memory)
    → IsCarriedOut result (MayRead n (Some old) line) out out (Some new)
timers_told (Ok done) n old new line out lengths told made = record {
  printed = [];
  added = sym (append-nil out);
  may = subst (λ (found : Option Lengths). MayFollow n line found (told_times old.early line) old.bench (prints [] (Some new))) (sym told)
      (record {
        lengths = lengths;
        times = made.times;
        lengths_are = refl;
        times_are = made.times_are;
        outcome_is = ap (λ (e : EndState). prints [] (Some e)) made.end_is;
      });
}
timers_told (Err stop) n old new line out lengths told made =
    (subst (λ (s : Stop TerminalFault). MayTell s (MayRead n (Some old) line)) (sym made) tt, refl)

-- what is read is what the line tells
pub timers_found : (read : Result Timers Blame) (told : Read Lengths) → result_map_both timers_of (λ blame. blame) read ≡ told
    → option_map timers_of (result_ok read) ≡ result_ok told
timers_found (Ok lengths) told is = ap (λ (r : Read Lengths). result_ok r) is
timers_found (Err blame) told is = ap (λ (r : Read Lengths). result_ok r) is

pub times_found : (read : Result Times Blame) (told : Read LinkTimes) → result_map_both times_of (λ blame. blame) read ≡ told
    → option_map times_of (result_ok read) ≡ result_ok told
times_found (Ok times) told is = ap (λ (r : Read LinkTimes). result_ok r) is
times_found (Err blame) told is = ap (λ (r : Read LinkTimes). result_ok r) is

pub opened_anew : (lengths : Timers) (times : Times) (settings : Settings) (config : SetConfig) (bench : ManagedState)
    → settings_in config ≡ settings → times_of times ≡ usual_times → bench ≡ new_managed config lengths times
    → IsOpenedAnew lengths settings (record { bench = unasked bench; early = Early.Times })
opened_anew lengths times settings config bench same set made = record {
  times = times;
  times_are = set;
  end_is = ap (λ (b : ManagedState). opened b) (made ∙ ap (λ (s : Settings). opened_end (opened_bench s lengths) s.links times) same);
}
  where
    opened : ManagedState → EndState
    opened b = record { bench = unasked b; early = Early.Times }

pub times_told : (result : Result (Unit {0}) (Stop TerminalFault)) (n : ℕ) (early : Early) (old new : ForgettingBench) (line out : List ℕ)
    (times : Times) → told_times early line ≡ Some (times_of times)
    → MatchResult result (λ done. new ≡ timed times old) (λ stop. stop ≡ Memory)
    → IsCarriedOut result (MayTime n line (told_times early line) old) out out (Some (record { bench = new; early = Early.Over }))
times_told (Ok done) n early old new line out times told made = record {
  printed = [];
  added = sym (append-nil out);
  may = subst (λ (found : Option LinkTimes). MayTime n line found old (prints [] (Some (record { bench = new; early = Early.Over })))) (sym told)
      (record {
        times = times;
        times_are = refl;
        outcome_is = ap (λ (b : ForgettingBench). prints [] (Some (record { bench = b; early = Early.Over }))) made;
      });
}
times_told (Err stop) n early old new line out times told made =
    (subst (λ (s : Stop TerminalFault). MayTell s (MayTime n line (told_times early line) old)) (sym made) tt, refl)

-- What is asked for is done, of a link that is there.

pub asked_done : (there : Bool) (n : ℕ) (asked : Asked) (old new : ForgettingBench) (out after printed : List ℕ) → there ≡ true
    → after ≡ out ++ printed → Does asked old printed new
    → MayPrint (MayDoAt there n asked old) out after (Some (record { bench = new; early = Early.Over }))
asked_done true n asked old new out after printed is added does = record {
  printed = printed;
  added = added;
  may = record { printed = printed; new = new; does = does; outcome_is = refl };
}
asked_done false n asked old new out after printed is added does = absurd (cc is)

-- Of which terminal an event is.

below_16 : (link links : ℕ) → links ≤ 16 → nat_lt link links ≡ true → link < 16
below_16 link links few below = grind (arith, nat_tests, few, below)

pub is_actor : (event : Event) (links : ℕ) → links ≤ 16 → is_below links (link_of_event event) ≡ true → IsActor (asker event)
is_actor (Event.Offer body) links few below = omega arith
is_actor Event.Take links few below = omega arith
is_actor (Event.Find number) links few below = omega arith
is_actor (Event.Next link) links few below = below_16 link links few below
is_actor (Event.Heard link unit) links few below = below_16 link links few below
is_actor (Event.Up link) links few below = below_16 link links few below
is_actor (Event.Down link) links few below = below_16 link links few below
is_actor (Event.DownBlind link) links few below = below_16 link links few below
is_actor (Event.NoAnswer link) links few below = below_16 link links few below
is_actor (Event.Timed link) links few below = below_16 link links few below
is_actor (Event.Restore link) links few below = below_16 link links few below
is_actor (Event.Redeclare link) links few below = below_16 link links few below
is_actor (Event.BackTimeout link) links few below = below_16 link links few below
is_actor (Event.Test link) links few below = below_16 link links few below
