-- What stands before the body of a message.
use Rattle.std.specs.Prelude.{ℕ, List, [], ◌∷◌, ◌++◌, min}
use Rattle.l2_units.specs.Grammar.{header_text, four_octets, wide_number}
use Rattle.l2_units.specs.Profile.{Profile, Narrow, Wide}
use Rattle.l2_units.specs.declared.unit.Header.{Header}

-- a header, and the length indicator of a body of so many octets
abbrev pub size_text : Profile → Header → ℕ → List ℕ
size_text Narrow head size = header_text head ++ min size 63 ∷ []
size_text Wide head size = four_octets (wide_number head (min size 63))
