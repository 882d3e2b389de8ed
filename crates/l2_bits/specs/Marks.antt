-- What the error rate monitors are told of the bits of a line (Q.703 4.1, 10.2, 10.3)
use Rattle.std.specs.Prelude.{◌≡◌, ℕ, ◌+◌, ◌%◌, ◌≤◌, Bool, List, [], ◌∷◌, ◌++◌, length, Option, Some, None}
use Rattle.std.specs.Option.{option_to_list}
use Rattle.l2_bits.specs.declared.marks.Mark.{Mark}
use Rattle.l2_bits.specs.declared.marks.Mark.TheVariants.{Good, Bad, Sixteen}
use Rattle.l2_bits.specs.Flags.{flag, IsFlagEnd}
use Rattle.l2_bits.specs.Contents.{IsGood, EndsGood, EndsBad}
use Rattle.l2_bits.specs.OctetCounting.{Counts, IsAligned}

-- with the next bit sixteen octets more have been counted, and no good signal unit ends
pub record EndsSixteen (past : List Bool) (bit : Bool) : Type 0 where
  pub counted : List Bool
  pub counts : Counts past counted
  pub whole : (length counted + 1) % 128 ≡ 0
  pub not_good : (octets : List ℕ) → EndsGood past bit octets → ⊥

-- the mark that the next bit gives, if any
abbrev pub IsMark : List Bool → Bool → Option Mark → Type 0
IsMark past bit (Some (Good octets)) = EndsGood past bit octets.items
IsMark past bit (Some Bad) = EndsBad past bit × IsAligned past
IsMark past bit (Some Sixteen) = EndsSixteen past bit
IsMark past bit None =
    ((octets : List ℕ) → EndsGood past bit octets → ⊥)
    × (EndsBad past bit → IsAligned past → ⊥)
    × (EndsSixteen past bit → ⊥)

-- the marks that bits give after the past, in order
abbrev pub AreMarks : List Bool → List Bool → List Mark → Type 0
AreMarks past [] marks = marks ≡ []
AreMarks past (bit ∷ bits) marks =
    (mark : Option Mark) × (later : List Mark)
    × (IsMark past bit mark) × (AreMarks (past ++ bit ∷ []) bits later)
    × (marks ≡ option_to_list mark ++ later)

-- a bit gives at most one mark
abbrev pub BitHasOneMark : Type 0
BitHasOneMark =
    (past : List Bool) (bit : Bool) (a b : Option Mark) → IsMark past bit a → IsMark past bit b → a ≡ b

-- so bits give one list of marks
abbrev pub BitsHaveOneList : Type 0
BitsHaveOneList =
    (past bits : List Bool) (a b : List Mark) → AreMarks past bits a → AreMarks past bits b → a ≡ b

-- eight bits give two marks at most: two flags with bits between them end eight places apart or more, and so do
-- sixteen octets that are counted
abbrev pub OctetHasTwoMarks : Type 0
OctetHasTwoMarks =
    (past bits : List Bool) (marks : List Mark) → AreMarks past bits marks → length bits ≤ 8 → length marks ≤ 2

-- one bit more adds its mark, if any
abbrev pub OneBitMore : Type 0
OneBitMore =
    (past bits : List Bool) (bit : Bool) (marks : List Mark) (mark : Option Mark)
    → AreMarks past bits marks → IsMark (past ++ bits) bit mark
    → AreMarks past (bits ++ bit ∷ []) (marks ++ option_to_list mark)

-- after a flag, outside octet counting, the text of a good signal unit and its closing flag give that unit,
-- and nothing else
abbrev pub UnitGivesOneGood : Type 0
UnitGivesOneGood =
    (past raw : List Bool) (octets : List ℕ) → IsFlagEnd past → IsAligned past → IsGood raw octets
    → AreMarks past (raw ++ flag) (Good (record { items = octets }) ∷ [])
