-- A line of `decode` that can't be read is explained.
use Rattle.std.proofs.Common.{refl, ◌≡◌, ℕ, true, List, Option, Some, None, is_some}
use Rattle.std.specs.Option.{option_map}
use Rattle.text_base.specs.Figures.{octets_of}
use Rattle.text_forms.specs.Showing.{explanation}
use Rattle.text_forms.specs.OctetLines.{blamed_octets}
use Rattle.text_forms.specs.declared.words.Blame.{Blame}
use Rattle.text_forms.proofs.OctetLines.{no_octets_blamed}
use Rattle.text_lines.specs.Lines.{stops}
use Rattle.text_units.specs.DecodeExplaining.{EachFaultIsExplained, said}
use Rattle.text_units.specs.Decoding.{decoded}

blame_told : (n : ℕ) (text : List ℕ) (blame : Option Blame) → is_some blame ≡ true → is_some (option_map (λ (b : Blame). explanation n b text) blame) ≡ true
blame_told n text (Some blame) e = refl
blame_told n text None e = cc

pub each_explained : EachFaultIsExplained
each_explained profile n text fault e = by (octets_of text) refl e
  where
    by : (octets : Option (List ℕ)) → octets_of text ≡ octets → decoded profile n text octets ≡ stops fault → is_some (said text fault) ≡ true
    by None f g = blame_told fault.line text (blamed_octets text) (no_octets_blamed text f)
    by (Some octets) f g = absurd cc
