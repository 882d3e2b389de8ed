-- THE TEXT OF `decode` with explanations: what is said of the line that ends it with a fault.
use Rattle.std.specs.Prelude.{◌≡◌, ℕ, true, List, Option, is_some}
use Rattle.std.specs.Option.{option_map}
use Rattle.l2_units.specs.declared.profile.Profile.{Profile}
use Rattle.text_base.specs.Figures.{octets_of}
use Rattle.text_base.specs.Printing.{Printed}
use Rattle.text_forms.specs.OctetLines.{blamed_octets}
use Rattle.text_forms.specs.Showing.{explanation}
use Rattle.text_lines.specs.Explaining.{Explained, explained_rules}
use Rattle.text_lines.specs.Lines.{stops}
use Rattle.text_lines.specs.Talks.{IsTalkText, by_function}
use Rattle.text_units.specs.declared.decode_fault.UnreadableUnit.{UnreadableUnit}
use Rattle.text_units.specs.Decoding.{decode_rules, decoded}

-- the lines that explain why the line of this number can't be read
abbrev pub said_of : ℕ → List ℕ → Option (List ℕ)
said_of n text = option_map (λ blame. explanation n blame text) (blamed_octets text)

abbrev pub said : List ℕ → UnreadableUnit → Option (List ℕ)
said text fault = said_of fault.line text

-- THE TEXT, of units of this profile
abbrev pub IsExplainedDecodeText : Profile → List ℕ → Printed (Explained UnreadableUnit) → Type 0
IsExplainedDecodeText profile = IsTalkText (explained_rules (by_function (decode_rules profile)) (λ state. said))

-- LAW: a line that is carried out to a fault is explained
abbrev pub EachFaultIsExplained : Type 0
EachFaultIsExplained =
    (profile : Profile) (n : ℕ) (text : List ℕ) (fault : UnreadableUnit)
    → decoded profile n text (octets_of text) ≡ stops fault → is_some (said text fault) ≡ true
