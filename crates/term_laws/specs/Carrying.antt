-- What a sender puts on the line, and what is heard of it where no bit is lost or changed (Q.703 3, 4.1, 4.2)
use Rattle.std.specs.Prelude.{◌≡◌, ◌≢◌, ℕ, Bool, false, List, [], ◌∷◌, ◌++◌}
use Rattle.std.specs.List.{flat_map}
use Rattle.l2_bits.specs.declared.marks.Mark.{Mark}
use Rattle.l2_bits.specs.declared.marks.Mark.TheVariants.{Good, Bad, Sixteen}
use Rattle.l2_bits.specs.Flags.{flag, IsFlagEnd}
use Rattle.l2_bits.specs.Stuffing.{ones}
use Rattle.l2_bits.specs.Contents.{IsGood, EndsGood}
use Rattle.l2_bits.specs.OctetCounting.{IsAligned}
use Rattle.l2_bits.specs.Marks.{AreMarks}

-- what a sender puts behind a flag next: a signal unit of these octets, or a flag
pub data Step : Type 0 where
  signal_unit : List ℕ → Step
  whole_flag : Step
  shared_flag : Step

-- A signal unit goes as the text of its octets and check octets, and a closing flag, which opens the next one. A flag goes whole,
-- or shares the zero of the flag before
abbrev pub Puts : Step → List Bool → Type 0
Puts (signal_unit octets) bits = (raw : List Bool) × IsGood raw octets × (bits ≡ raw ++ flag)
Puts whole_flag bits = bits ≡ flag
Puts shared_flag bits = bits ≡ ones 6 ++ false ∷ []

-- the line has these steps, one after another
abbrev pub Carries : List Step → List Bool → Type 0
Carries [] line = line ≡ []
Carries (step ∷ steps) line =
    (first later : List Bool) × Puts step first × Carries steps later × (line ≡ first ++ later)

-- a step that the line has in part, or none
pub record IsBegun (part : List Bool) : Type 0 where
  pub step : Step
  pub whole : List Bool
  pub rest : List Bool
  pub puts : Puts step whole
  pub more : rest ≢ []
  pub split : whole ≡ part ++ rest

-- the line has these steps so far, and no whole one more
pub record SoFar (steps : List Step) (line : List Bool) : Type 0 where
  pub front : List Bool
  pub part : List Bool
  pub carries : Carries steps front
  pub begun : IsBegun part
  pub split : line ≡ front ++ part

-- what is to be heard of them: each signal unit, good
abbrev pub heard_of : Step → List Mark
heard_of (signal_unit octets) = Good (record { items = octets }) ∷ []
heard_of whole_flag = []
heard_of shared_flag = []

abbrev pub all_heard : List Step → List Mark
all_heard steps = flat_map heard_of steps

-- after a flag, outside octet counting, each signal unit is heard, in order, and nothing else, no bad one among them
abbrev pub HearsWhatIsPut : Type 0
HearsWhatIsPut =
    (past line : List Bool) (steps : List Step) → IsFlagEnd past → IsAligned past → Carries steps line
    → AreMarks past line (all_heard steps)

-- and so it is from the first bit on
abbrev pub HearsFromTheFirst : Type 0
HearsFromTheFirst = (line : List Bool) (steps : List Step) → Carries steps line → AreMarks [] line (all_heard steps)

-- then a flag has ended, outside octet counting
abbrev pub StaysReady : Type 0
StaysReady =
    (past line : List Bool) (steps : List Step) → IsFlagEnd past → IsAligned past → Carries steps line
    → IsFlagEnd (past ++ line) × IsAligned (past ++ line)

-- where the line ends at any bit, nothing is heard of the step that it has in part
abbrev pub HearsSoFar : Type 0
HearsSoFar =
    (past line : List Bool) (steps : List Step) → IsFlagEnd past → IsAligned past → SoFar steps line
    → AreMarks past line (all_heard steps)

-- the bits up to any place of a line are some of its steps, and no whole one more
abbrev pub EndsAnywhere : Type 0
EndsAnywhere =
    (front back : List Bool) (steps : List Step) → Carries steps (front ++ back)
    → (done left : List Step) × (steps ≡ done ++ left) × SoFar done front

-- a line has one list of signal units
abbrev pub HasOneList : Type 0
HasOneList =
    (line : List Bool) (a b : List Step) → Carries a line → Carries b line → all_heard a ≡ all_heard b

-- WHERE THE LINE WAS DAMAGED.

-- what is heard, but for what octet counting tells
abbrev pub without_sixteen : List Mark → List Mark
without_sixteen [] = []
without_sixteen (Good octets ∷ marks) = Good octets ∷ without_sixteen marks
without_sixteen (Bad ∷ marks) = Bad ∷ without_sixteen marks
without_sixteen (Sixteen ∷ marks) = without_sixteen marks

-- whatever came before, behind a flag each signal unit is heard, in order, and nothing else but what octet counting tells
abbrev pub HearsAgain : Type 0
HearsAgain =
    (past line : List Bool) (steps : List Step) (marks : List Mark) → IsFlagEnd past → Carries steps line
    → AreMarks past line marks → without_sixteen marks ≡ all_heard steps

-- also where the line ends at any bit
abbrev pub HearsAgainSoFar : Type 0
HearsAgainSoFar =
    (past line : List Bool) (steps : List Step) (marks : List Mark) → IsFlagEnd past → SoFar steps line
    → AreMarks past line marks → without_sixteen marks ≡ all_heard steps

-- the marks of a damaged line: those of the steps before, any of the damaged bits up to a flag behind them, and those of
-- the steps behind that flag, some sixteens between them
pub record AreDamaged (before after : List Step) (line damaged : List Bool) (marks : List Mark) : Type 0 where
  pub there : List Mark
  pub later : List Mark
  pub all : marks ≡ all_heard before ++ (there ++ later)
  pub are_there : AreMarks line (damaged ++ flag) there
  pub are_later : without_sixteen later ≡ all_heard after

-- damage costs no more than the steps that it touches: from a step that has begun up to the next flag that is whole
abbrev pub DamageStaysThere : Type 0
DamageStaysThere =
    (line damaged behind : List Bool) (before after : List Step) (marks : List Mark)
    → SoFar before line → SoFar after behind → AreMarks [] (line ++ (damaged ++ (flag ++ behind))) marks
    → AreDamaged before after line damaged marks

-- what is heard good stood on the line: the text of its octets and their check octets, between two flags
abbrev pub HeardIsSealed : Type 0
HeardIsSealed =
    (past bits : List Bool) (octets : List ℕ) (first more : List Mark)
    → AreMarks past bits (first ++ Good (record { items = octets }) ∷ more)
    → (a b : List Bool) × (bit : Bool) × (bits ≡ a ++ bit ∷ b) × EndsGood (past ++ a) bit octets
