-- Loss of alignment, and octet counting (Q.703 4.1)
use Rattle.std.specs.Prelude.{◌≡◌, ℕ, ◌≤◌, Bool, List, [], ◌∷◌, ◌++◌, length}
use Rattle.l2_bits.specs.Flags.{flag, EndsIn, Since}
use Rattle.l2_bits.specs.Stuffing.{ones}
use Rattle.l2_bits.specs.Contents.{EndsGood}

-- With the last of the bits fed alignment is lost: seven ones stand in a row, or no flag ends within 2,677
-- bits (own: 2,676 hold the longest text and its closing flag)
pub data LosesAlignment (fed : List Bool) : Type 0 where
  seven_ones : EndsIn (flag ++ fed) (ones 7) → LosesAlignment fed
  too_long : (since : List Bool) → Since fed since → length since ≡ 2677 → LosesAlignment fed

-- alignment was lost just before the last bits fed, and among those no good signal unit has ended
pub record IsLost (fed since : List Bool) : Type 0 where
  pub before : List Bool
  pub split : fed ≡ before ++ since
  pub lost : LosesAlignment before
  pub no_unit : (a b : List Bool) (bit : Bool) (octets : List ℕ) → since ≡ a ++ bit ∷ b
      → EndsGood (before ++ a) bit octets → ⊥

-- octet counting runs, and these bits have come since it began: where alignment was first lost
pub record Counts (fed counted : List Bool) : Type 0 where
  pub lost : IsLost fed counted
  pub first : (longer : List Bool) → IsLost fed longer → length longer ≤ length counted

-- octet counting does not run
abbrev pub IsAligned : List Bool → Type 0
IsAligned fed = (since : List Bool) → IsLost fed since → ⊥

-- it does not run before the first bit
abbrev pub NoneAtFirst : Type 0
NoneAtFirst = IsAligned []

-- it begins where alignment is lost outside it
abbrev pub BeginsWhereLost : Type 0
BeginsWhereLost =
    (past : List Bool) (bit : Bool) → IsAligned past → LosesAlignment (past ++ bit ∷ [])
    → Counts (past ++ bit ∷ []) []

-- and nowhere else
abbrev pub StaysAligned : Type 0
StaysAligned =
    (past : List Bool) (bit : Bool) → IsAligned past → (LosesAlignment (past ++ bit ∷ []) → ⊥)
    → IsAligned (past ++ bit ∷ [])

-- it goes on with a bit with which no good signal unit ends
abbrev pub GoesOn : Type 0
GoesOn =
    (past counted : List Bool) (bit : Bool) → Counts past counted
    → ((octets : List ℕ) → EndsGood past bit octets → ⊥) → Counts (past ++ bit ∷ []) (counted ++ bit ∷ [])

-- and a good signal unit ends it
abbrev pub EndsWithUnit : Type 0
EndsWithUnit =
    (past : List Bool) (bit : Bool) (octets : List ℕ) → EndsGood past bit octets → IsAligned (past ++ bit ∷ [])
