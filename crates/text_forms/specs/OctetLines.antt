-- THE LINES OF `decode`: the octets of a unit in one word, and nothing behind it.
use Rattle.std.specs.Prelude.{◌≡◌, List, ℕ, true, length, Option, Some, None, is_some}
use Rattle.std.specs.Result.{result_err}
use Rattle.text_base.specs.Figures.{octets_of}
use Rattle.text_forms.specs.declared.mistake.Mistake.TheVariants.{NotHexadecimal}
use Rattle.text_forms.specs.declared.words.Blame.{Blame}
use Rattle.text_forms.specs.Words.{Read, Rest, at_place, at_end}
use Rattle.text_forms.specs.Places.{octets}

-- the whole line; its first word is never missing
abbrev pub whole_line : List ℕ → Rest
whole_line text = record { size = length text; short = NotHexadecimal; left = Some text }

-- HEX
abbrev pub octets_read : List ℕ → Read (List ℕ)
octets_read text = at_place octets (λ octets. at_end octets) (whole_line text)

-- the word at fault of such a line
abbrev pub blamed_octets : List ℕ → Option Blame
blamed_octets text = result_err (octets_read text)

-- LAW: a line that isn't octets has a word at fault
abbrev pub NoOctetsAreBlamed : Type 0
NoOctetsAreBlamed = (text : List ℕ) → octets_of text ≡ None → is_some (blamed_octets text) ≡ true
