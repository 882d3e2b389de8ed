-- LAWS of an end whose links are managed.
use Rattle.std.specs.Prelude.{◌≡◌, ◌<◌, ℕ, Bool, false, List, [], length, slice_get}
use Rattle.term_bench.specs.Ready.{AreShort, IsReady}
use Rattle.term_managed.specs.Ends.{ManagedState, is_on}
use Rattle.term_managed.specs.Turns.{HeardTurn, HearsPieces, Manages}
use Rattle.term_managed.specs.declared.turn.Deed.{Deed}

-- LAW: behind a turn of a link that isn't activated nothing is asked, and all stays as the turn left it
abbrev pub IsBenchWhileOff : Type 0
IsBenchWhileOff =
    (link : ℕ) (old : ManagedState) (deeds : List Deed) (new : ManagedState) → is_on (slice_get old.kept link) ≡ false
    → Manages link old deeds new → (deeds ≡ []) × (new ≡ old)

-- LAW: what came decides what was done, and how the end stands then
abbrev pub OneHearing : Type 0
OneHearing =
    (link : ℕ) (pieces : List (List Bool)) (old : ManagedState) (a b : List HeardTurn) (x y : ManagedState)
    → HearsPieces link pieces old a x → HearsPieces link pieces old b y → (a ≡ b) × (x ≡ y)

-- so many links, each of which level 3 keeps, at a set of the narrow profile
pub record IsReadyEnd (links : ℕ) (s : ManagedState) : Type 0 where
  pub bench : IsReady links s.bench
  pub kept : length s.kept ≡ links

-- LAW: whatever comes on a line of such an end is heard, and what is asked behind its turns comes to an end
abbrev pub EachIsHeard : Type 0
EachIsHeard =
    (links link : ℕ) (pieces : List (List Bool)) (old : ManagedState) → IsReadyEnd links old → link < links → AreShort pieces
    → (heard : List HeardTurn) × (new : ManagedState) × HearsPieces link pieces old heard new × IsReadyEnd links new
