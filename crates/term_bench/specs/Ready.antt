-- A BENCH THAT GOES ON, whatever comes on its lines.
use Rattle.std.specs.Prelude.{◌≡◌, ◌<◌, ◌≤◌, ℕ, Bool, List, [], ◌∷◌, length, Some, slice_get}
use Rattle.l2_units.specs.declared.profile.Profile.TheVariants.{Narrow}
use Rattle.set_model.specs.Sound.{IsSettings, IsSound}
use Rattle.set_model.specs.State.{State}
use Rattle.term_bench.specs.Ends.{AtLink, BenchState}
use Rattle.term_bench.specs.Waiting.{HearsPieces, TurnAndUnit}

-- what a set of the narrow profile holds: it gives no unit of the wide one
pub record GivesNarrow (s : State) : Type 0 where
  pub sound : IsSound s
  pub settings : IsSettings s.settings
  pub narrow : s.settings.profile ≡ Narrow

-- at each link fewer than eight bits wait for their octet
abbrev pub FewWait : List AtLink → Type 0
FewWait links = (n : ℕ) (at : AtLink) → slice_get links n ≡ Some at → length at.waiting < 8

-- so many links, at a set of the narrow profile, which could be opened anew
pub record IsReady (links : ℕ) (bench : BenchState) : Type 0 where
  pub gives : GivesNarrow bench.set.state
  pub settings : IsSettings bench.set.base.state.settings
  pub narrow : bench.set.base.state.settings.profile ≡ Narrow
  pub count : length bench.links ≡ links
  pub few : FewWait bench.links

-- pieces of an octet at most
abbrev pub AreShort : List (List Bool) → Type 0
AreShort [] = Unit {0}
AreShort (bits ∷ pieces) = (length bits ≤ 8) × AreShort pieces

-- LAW: whatever comes on a line of such a bench is heard, and the bench is such a one then
abbrev pub EachIsHeard : Type 0
EachIsHeard =
    (links link : ℕ) (pieces : List (List Bool)) (old : BenchState) → IsReady links old → link < links → AreShort pieces
    → (heard : List TurnAndUnit) × (new : BenchState) × HearsPieces link pieces old heard new × IsReady links new
