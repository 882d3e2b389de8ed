-- A line of which bits were changed, lost or added, and what is heard of it
use Rattle.std.specs.Prelude.{◌≡◌, ℕ, Bool, List, [], ◌∷◌, ◌++◌}
use Rattle.std.specs.List.{flat_map}
use Rattle.l2_bits.specs.declared.marks.Mark.{Mark}
use Rattle.l2_bits.specs.declared.marks.Mark.TheVariants.{Good, Bad, Sixteen}
use Rattle.l2_bits.specs.Flags.{flag}
use Rattle.l2_bits.specs.Marks.{AreMarks}
use Rattle.term_laws.specs.Carrying.{Step, signal_unit, whole_flag, shared_flag, SoFar}

-- bits that came in place of some steps, up to a whole flag, and steps behind it that came as they were sent
pub record Stretch : Type 0 where
  pub damaged : List Bool
  pub touched : List Step
  pub kept : List Step
  pub line : List Bool

-- bits that came in place of some steps so far, and no whole flag behind them yet; there may be none
pub record Unended : Type 0 where
  pub damaged : List Bool
  pub touched : List Step

-- the bits of stretches
abbrev pub bits_in : Stretch → List Bool
bits_in stretch = (stretch.damaged ++ flag) ++ stretch.line

-- what was kept, up to where the next stretch begins
abbrev pub AreKept : List Stretch → Type 0
AreKept [] = Unit {0}
AreKept (stretch ∷ stretches) = SoFar stretch.kept stretch.line × AreKept stretches

-- the octets of the signal units that were sent, and of those that were heard
abbrev pub sent_by : Step → List (List ℕ)
sent_by (signal_unit octets) = octets ∷ []
sent_by whole_flag = []
sent_by shared_flag = []

abbrev pub all_sent : List Step → List (List ℕ)
all_sent steps = flat_map sent_by steps

abbrev pub good_in : List Mark → List (List ℕ)
good_in [] = []
good_in (Good octets ∷ marks) = octets.items ∷ good_in marks
good_in (Bad ∷ marks) = good_in marks
good_in (Sixteen ∷ marks) = good_in marks

-- some of these, in order, maybe none
pub data AreSome : List (List ℕ) → List (List ℕ) → Type 0 where
  nothing : {some all : List (List ℕ)} → some ≡ [] → AreSome some all
  one : (octets : List ℕ) {some all more rest : List (List ℕ)} → some ≡ octets ∷ more → all ≡ octets ∷ rest
      → AreSome more rest → AreSome some all
  another : (octets : List ℕ) {some all rest : List (List ℕ)} → all ≡ octets ∷ rest → AreSome some rest → AreSome some all

-- PREMISE: damage shows as loss: what is heard good of damaged bits was sent there
abbrev pub HearsOf : List Step → List Bool → List Bool → Type 0
HearsOf touched past bits = (marks : List Mark) → AreMarks past bits marks → AreSome (good_in marks) (all_sent touched)

abbrev pub ShowsAsLoss : List Bool → List Stretch → Unended → Type 0
ShowsAsLoss past [] unended = HearsOf unended.touched past unended.damaged
ShowsAsLoss past (stretch ∷ stretches) unended =
    HearsOf stretch.touched past (stretch.damaged ++ flag) × ShowsAsLoss (past ++ bits_in stretch) stretches unended

-- the bits that came of such a line, and the steps that were sent by then
abbrev pub damaged_line : List Bool → List Stretch → Unended → List Bool
damaged_line line stretches unended = line ++ (flat_map bits_in stretches ++ unended.damaged)

abbrev pub steps_in : Stretch → List Step
steps_in stretch = stretch.touched ++ stretch.kept

abbrev pub steps_by_then : List Step → List Stretch → Unended → List Step
steps_by_then steps stretches unended = steps ++ (flat_map steps_in stretches ++ unended.touched)

-- LAW: of a line that was damaged in any number of places, at any moment, also where no whole flag has come behind the last
-- damaged bit, some of the signal units that were sent by then were heard, in order, and no other
abbrev pub SomeAreHeard : Type 0
SomeAreHeard =
    (line : List Bool) (steps : List Step) (stretches : List Stretch) (unended : Unended) (marks : List Mark) → SoFar steps line
    → AreKept stretches → ShowsAsLoss line stretches unended → AreMarks [] (damaged_line line stretches unended) marks
    → AreSome (good_in marks) (all_sent (steps_by_then steps stretches unended))
