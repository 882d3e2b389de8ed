-- WHAT IS TOLD OF A LINE, and that it is so.
use Rattle.std.specs.Prelude.{◌≡◌, ℕ, true, false, List, length, Option, Some, None, is_none, is_some}
use Rattle.std.specs.Result.{result_err}
use Rattle.l2_units.specs.declared.profile.Profile.TheVariants.{Wide}
use Rattle.text_forms.specs.Opening.{opening_read}
use Rattle.text_forms.specs.Opening.{first_line}
use Rattle.text_forms.specs.declared.opened.Values.{Values}
use Rattle.text_forms.specs.declared.asked.Asked.{Asked}
use Rattle.text_forms.specs.Asking.{asked_of}
use Rattle.terminal_text.specs.Explaining.{said}
use Rattle.terminal_text.specs.Answers.{is_below, link_in}
use Rattle.terminal_text.specs.Text.{MayRead, early_in}
use Rattle.terminal_text.specs.declared.fault.TerminalFault.{TerminalFault}
use Rattle.terminal_text.specs.declared.fault.TerminalFault.TheVariants.{Step}
use Rattle.terminal_text.specs.declared.open_end.End.{End as EndState}
use Rattle.text_lines.specs.Lines.{stops}

-- LAW: of every line that is refused, and isn't too long, something is told
abbrev pub EveryFaultIsTold : Type 0
EveryFaultIsTold =
    (n : ℕ) (end : Option EndState) (text : List ℕ) (fault : TerminalFault) → MayRead n end text (stops fault)
    → is_some (said (early_in end) text fault) ≡ true

-- a first line that is refused though a script could begin with it is of the wide profile
abbrev pub RefusedAsWide : Type 0
RefusedAsWide =
    (n : ℕ) (text : List ℕ) (fault : TerminalFault) → MayRead n None text (stops fault) → is_none (result_err (opening_read text)) ≡ true
    → (v : Values) × (first_line text ≡ Some v) × (v.profile ≡ Wide)

-- a line that is told to ask for no link of the set asks for one that isn't there
abbrev pub RefusedForItsLink : Type 0
RefusedForItsLink =
    (n m : ℕ) (end : Option EndState) (text : List ℕ) → MayRead n end text (stops (Step m))
    → (at : EndState) × (asked : Asked) × (end ≡ Some at) × (asked_of text ≡ Some asked)
    × (is_below (length at.bench.managed.bench.links) (link_in asked) ≡ false)

-- LAW: what is told of a set or a link is so
pub record EveryReasonIsSo : Type 0 where
  pub wide : RefusedAsWide
  pub link : RefusedForItsLink
