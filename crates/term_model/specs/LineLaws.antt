-- LAW of the line: what a terminal's turns put on it.
use Rattle.std.specs.Prelude.{◌≡◌, ℕ, Bool, List, [], ◌∷◌, ◌++◌}
use Rattle.l2_bits.specs.Flags.{flag}
use Rattle.l2_bits.specs.LineBits.{line_bits}
use Rattle.l2_bits.specs.SealedText.{sealed_text}
use Rattle.l2_bits.specs.Stuffing.{Stuffed}
use Rattle.l2_units.specs.declared.unit.Unit.{Unit as SignalUnit}
use Rattle.l2_units.specs.Grammar.{text}
use Rattle.l2_units.specs.declared.profile.Profile.TheVariants.{Narrow}
use Rattle.term_model.specs.Runs.{Doing, AreTurns, units_of, octets_out}
use Rattle.term_model.specs.Terminal.{Terminal}
use Rattle.term_model.specs.TurnLaws.{IsSound}

-- units on the line, one after another: of each its octets and check octets, with zeros inserted, and a flag (Q.703 2.2,
-- 3.1, 3.2, 4.2)
abbrev pub AreOnLine : List SignalUnit → List Bool → Type 0
AreOnLine [] line = line ≡ []
AreOnLine (unit ∷ units) line =
    (wire : List Bool) × (later : List Bool) × Stuffed (line_bits (sealed_text (text Narrow unit))) wire × AreOnLine units later
    × (line ≡ wire ++ flag ++ later)

-- what was left to send and then these units are these octets, the lowest bit first, and then what is left
pub record CarriesUnits (units : List SignalUnit) (octets : List ℕ) (old new : List Bool) : Type 0 where
  pub line : List Bool
  pub on_line : AreOnLine units line
  pub same : old ++ line ≡ line_bits octets ++ new

-- LAW: the line gets just the units that turns chose, in order, with a flag behind each: no bit is lost or doubled, also
-- where the line was full meanwhile
abbrev pub TheLineCarriesUnits : Type 0
TheLineCarriesUnits =
    (doings : List Doing) (taken : List Bool) (before after : Terminal) → IsSound before
    → AreTurns doings taken before after → CarriesUnits (units_of doings) (octets_out doings) before.bits after.bits
