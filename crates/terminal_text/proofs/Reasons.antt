-- Of every refused line something is told, and what is told of a set or a link is so.
use Rattle.std.proofs.Common.{◌≡◌, refl, ◌∙◌, ℕ, Bool, true, false, List, length, Option, Some, None, Ok, Err, cond, codes, is_none, is_some, arith}
use Rattle.std.specs.Option.{option_map}
use Rattle.std.specs.Result.{result_err, result_ok}
use Rattle.std.specs.Str.{bytes_eq}
use Rattle.l2_units.specs.declared.profile.Profile.{Profile}
use Rattle.l2_units.specs.declared.profile.Profile.TheVariants.{Narrow, Wide}
use Rattle.terminal_text.specs.declared.forgetting.ForgettingBench.{ForgettingBench}
use Rattle.text_forms.specs.declared.words.Blame.{Blame}
use Rattle.text_forms.specs.Showing.{explanation}
use Rattle.text_forms.specs.Asking.{asked_read, blamed_line}
use Rattle.text_forms.specs.Opening.{opening_read}
use Rattle.text_forms.specs.Words.{Read, first_word}
use Rattle.text_forms.specs.Opening.{first_line}
use Rattle.text_forms.specs.declared.opened.Values.{Values}
use Rattle.text_forms.specs.declared.asked.Asked.{Asked}
use Rattle.text_forms.specs.Asking.{asked_of}
use Rattle.text_forms.specs.Timers.{Lengths, timers_read}
use Rattle.text_forms.specs.Times.{LinkTimes, link_times_of, times_read}
use Rattle.text_forms.specs.declared.early.Early.{Early}
use Rattle.terminal_text.specs.Answers.{is_below, link_in}
use Rattle.terminal_text.specs.Text.{MayDo, MayDoAt, MayFollow, MayOpen, MayOpenAs, MayTime, told_lengths, told_times}
use Rattle.terminal_text.specs.declared.fault.TerminalFault.{TerminalFault}
use Rattle.terminal_text.specs.declared.fault.TerminalFault.TheVariants.{Text, Step}
use Rattle.text_lines.specs.declared.flaw.LineFlaw.{LineFlaw}
use Rattle.text_lines.specs.Lines.{stops}
use Rattle.terminal_text.specs.Reasons.{EveryFaultIsTold, EveryReasonIsSo, RefusedAsWide, RefusedForItsLink}

-- a later line that can't be read tells no timers and asks for nothing
module _ (n m : ℕ) (flaw : LineFlaw) (text : List ℕ) (old : ForgettingBench) where
  asks_nothing_at : (there : Bool) (asked : Asked) → MayDoAt there n asked old (stops (Text m flaw)) → ⊥
  asks_nothing_at false asked e = absurd cc
  asks_nothing_at true asked d = absurd (let e = d.outcome_is in cc)

  asks_nothing : (found : Option Asked) → MayDo n text found old (stops (Text m flaw)) → is_some found ≡ false
  asks_nothing None may = refl
  asks_nothing (Some asked) may = absurd (asks_nothing_at (is_below (length old.managed.bench.links) (link_in asked)) asked may)

  times_nothing : (told : Option LinkTimes) → MayTime n text told old (stops (Text m flaw)) → (is_some told ≡ false) × (is_some (asked_of text) ≡ false)
  times_nothing None may = (refl, asks_nothing (asked_of text) may)
  times_nothing (Some lengths) o = absurd (let e = o.outcome_is in cc)

  tells_nothing : (told : Option Lengths) (times : Option LinkTimes) → MayFollow n text told times old (stops (Text m flaw))
      → (is_some told ≡ false) × (is_some times ≡ false) × (is_some (asked_of text) ≡ false)
  tells_nothing None times may = let both = times_nothing times may in (refl, both.0, both.1)
  tells_nothing (Some lengths) times o = absurd (let e = o.outcome_is in cc)

-- what isn't read has a word at fault
is_blamed : {A : Type 0} (read : Read A) → is_some (result_ok read) ≡ false → is_some (result_err read) ≡ true
is_blamed (Ok a) e = absurd cc
is_blamed (Err blame) e = refl

-- as level 3's times, or else as what it asks for
timed_by : (b : Bool) (text : List ℕ) → is_some (link_times_of text) ≡ false → is_some (asked_of text) ≡ false
    → is_some (cond b (result_err (times_read text)) (result_err (asked_read text))) ≡ true
timed_by true text t a = is_blamed (times_read text) t
timed_by false text t a = is_blamed (asked_read text) a

-- as timers, or else so
blamed_by : (early : Early) (text : List ℕ) → is_some (told_lengths early text) ≡ false → is_some (told_times early text) ≡ false
    → is_some (asked_of text) ≡ false → is_some (blamed_line early text) ≡ true
blamed_by Early.Both text l t a = by (bytes_eq (first_word text) (codes "timers"))
  where
    by : (b : Bool) → is_some (cond b (result_err (timers_read text))
        (cond (bytes_eq (first_word text) (codes "level3")) (result_err (times_read text)) (result_err (asked_read text)))) ≡ true
    by true = is_blamed (timers_read text) l
    by false = timed_by (bytes_eq (first_word text) (codes "level3")) text t a
blamed_by Early.Times text l t a = timed_by (bytes_eq (first_word text) (codes "level3")) text t a
blamed_by Early.Over text l t a = is_blamed (asked_read text) a

mapped : {A B : Type 0} (f : A → B) (o : Option A) → is_some (option_map f o) ≡ is_some o
mapped f None = refl
mapped f (Some x) = refl

pub every_fault_is_told : EveryFaultIsTold
every_fault_is_told n None text (Text m flaw) may = refl
every_fault_is_told n None text (Step m) may = refl
every_fault_is_told n (Some end) text (Step m) may = refl
every_fault_is_told n (Some end) text (Text m flaw) may =
    mapped (λ (blame : Blame). explanation m blame text) (blamed_line end.early text)
    ∙ (let none = tells_nothing n m flaw text end.bench (told_lengths end.early text) (told_times end.early text) may in
    blamed_by end.early text none.0 none.1 none.2)

-- A first line.

wide_by : (n : ℕ) (text : List ℕ) (fault : TerminalFault) (v : Values) (profile : Profile) → v.profile ≡ profile → MayOpenAs profile n text v (stops fault) → v.profile ≡ Wide
wide_by n text fault v Narrow e o = absurd (let f = o.outcome_is in cc)
wide_by n text fault v Wide e o = e

found_by : (n : ℕ) (text : List ℕ) (fault : TerminalFault) (found : Option Values) → first_line text ≡ found → MayOpen n text found (stops fault) → is_some found ≡ true
    → (v : Values) × (first_line text ≡ Some v) × (v.profile ≡ Wide)
found_by n text fault None e may some = absurd (grind arith)
found_by n text fault (Some v) e may some = (v, e, wide_by n text fault v v.profile refl may)

is_read : {A : Type 0} (read : Read A) → is_none (result_err read) ≡ true → is_some (result_ok read) ≡ true
is_read (Ok a) e = refl
is_read (Err blame) e = absurd cc

refused_as_wide : RefusedAsWide
refused_as_wide n text fault may none = found_by n text fault (first_line text) refl may (is_read (opening_read text) none)

-- A link that isn't there.

opens_at : (n m : ℕ) (text : List ℕ) (v : Values) (profile : Profile) → MayOpenAs profile n text v (stops (Step m)) → ⊥
opens_at n m text v Narrow o = absurd (let f = o.outcome_is in cc)
opens_at n m text v Wide e = absurd cc

opens : (n m : ℕ) (text : List ℕ) (found : Option Values) → MayOpen n text found (stops (Step m)) → ⊥
opens n m text None e = absurd cc
opens n m text (Some v) o = opens_at n m text v v.profile o

module _ (n m : ℕ) (text : List ℕ) (old : ForgettingBench) where
  lacks_at : (there : Bool) (asked : Asked) → MayDoAt there n asked old (stops (Step m)) → there ≡ false
  lacks_at false asked e = refl
  lacks_at true asked d = absurd (let e = d.outcome_is in cc)

  lacks : (found : Option Asked) → MayDo n text found old (stops (Step m)) → (asked : Asked) × (found ≡ Some asked) × (is_below (length old.managed.bench.links) (link_in asked) ≡ false)
  lacks None e = absurd cc
  lacks (Some asked) may = (asked, refl, lacks_at (is_below (length old.managed.bench.links) (link_in asked)) asked may)

  times_out : (told : Option LinkTimes) → MayTime n text told old (stops (Step m)) → (asked : Asked) × (asked_of text ≡ Some asked) × (is_below (length old.managed.bench.links) (link_in asked) ≡ false)
  times_out None may = lacks (asked_of text) may
  times_out (Some lengths) o = absurd (let e = o.outcome_is in cc)

  follows : (told : Option Lengths) (times : Option LinkTimes) → MayFollow n text told times old (stops (Step m))
      → (asked : Asked) × (asked_of text ≡ Some asked) × (is_below (length old.managed.bench.links) (link_in asked) ≡ false)
  follows None times may = times_out times may
  follows (Some lengths) times o = absurd (let e = o.outcome_is in cc)

refused_for_its_link : RefusedForItsLink
refused_for_its_link n m None text may = absurd (opens n m text (first_line text) may)
refused_for_its_link n m (Some end) text may =
    let asks = follows n m text end.bench (told_lengths end.early text) (told_times end.early text) may in
    (end, asks.0, refl, asks.1, asks.2)

pub every_reason_is_so : EveryReasonIsSo
every_reason_is_so = record { wide = refused_as_wide; link = refused_for_its_link }
