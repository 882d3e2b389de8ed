-- STEP 6 OF A TURN: ONE OCTET OUT. A unit that was chosen is appended to the bits that are left, as its text and a
-- flag; and the next eight bits go out as one octet where the line has room. Where it's full they stay.
use Rattle.std.specs.Prelude.{◌≡◌, ℕ, Bool, List, [], ◌∷◌, ◌++◌, take, drop, Option, Some, None, if◌then◌else◌}
use Rattle.l2_units.specs.declared.unit.Unit.{Unit as SignalUnit}
use Rattle.l2_units.specs.Grammar.{text}
use Rattle.l2_units.specs.declared.profile.Profile.TheVariants.{Narrow}
use Rattle.l2_bits.specs.Flags.{flag}
use Rattle.l2_bits.specs.LineBits.{line_bits, number_of}
use Rattle.l2_bits.specs.SealedText.{sealed_text}
use Rattle.l2_bits.specs.Stuffing.{Stuffed}
use Rattle.term_model.specs.Choosing.{Filled}
use Rattle.term_model.specs.Terminal.{Terminal}

-- a unit on the line: its octets and their check octets (Q.703 2.2, 4.2), with zeros inserted (3.2), and its closing
-- flag, which opens the next one (3.1)
pub record IsOnLine (unit : SignalUnit) (old new : List Bool) : Type 0 where
  pub wire : List Bool
  pub stuffed : Stuffed (line_bits (sealed_text (text Narrow unit))) wire
  pub appended : new ≡ old ++ wire ++ flag

abbrev pub Appends : Option SignalUnit → List Bool → List Bool → Type 0
Appends None old new = new ≡ old
Appends (Some unit) old new = IsOnLine unit old new

-- the octet of the next eight bits, the first the lowest (Q.703 2.4), where there is room for it
abbrev pub put_of : Bool → List Bool → List ℕ
put_of has_room bits = if has_room then number_of (take 8 bits) ∷ [] else []

abbrev pub left_of : Bool → List Bool → List Bool
left_of has_room bits = if has_room then drop 8 bits else bits

pub record PutsOctet (chosen : Filled) (put : List ℕ) (after : Terminal) : Type 0 where
  pub bits : List Bool
  pub appends : Appends chosen.unit chosen.after.bits bits
  pub has_room : Bool
  pub put_is : put ≡ put_of has_room bits
  pub after_is : after ≡ record chosen.after { bits = left_of has_room bits }
