-- THE LINES OF A WORLD, where one of them changes: that one, and the others.
use Rattle.std.proofs.Common.{refl, ◌≡◌, ◌<◌, ◌==◌, ℕ, false, List, [], ◌∷◌, ◌++◌, length}
use Rattle.l2_units.specs.declared.unit.Unit.{Unit as SignalUnit}
use Rattle.set_model.specs.History.{LinkSet}
use Rattle.pair_steps.specs.Lines.{units_on}
use Rattle.pair_steps.specs.declared.step.End.{End}
use Rattle.pair_steps.specs.declared.step.End.TheVariants.{A, B}
use Rattle.pair_model.specs.World.{World, joined, line_to, lines_to, other, with_end, with_line}
use Rattle.pair_model.proofs.Pairs.{on_other, on_set}
use Rattle.pair_rises.specs.Rises.{emptied}

module _ (w : World) (k : ℕ) where
  pub line_here : (end : End) (rest : List SignalUnit) → k < length (lines_to w end) → line_to (with_line w end k rest) end k ≡ rest
  line_here A rest few = on_set k rest w.to_a few
  line_here B rest few = on_set k rest w.to_b few

  pub line_off : (end at : End) (rest : List SignalUnit) (m : ℕ) → (k == m) ≡ false → line_to (with_line w end k rest) at m ≡ line_to w at m
  line_off A A rest m apart = on_other m k rest w.to_a apart
  line_off A B rest m apart = refl
  line_off B A rest m apart = refl
  line_off B B rest m apart = on_other m k rest w.to_b apart

  pub line_far : (end : End) (rest : List SignalUnit) (m : ℕ) → line_to (with_line w end k rest) (other end) m ≡ line_to w (other end) m
  line_far A rest m = refl
  line_far B rest m = refl

  pub joined_here : (end : End) (unit : SignalUnit) → k < length (lines_to w (other end))
      → line_to (joined w end k unit) (other end) k ≡ line_to w (other end) k ++ unit ∷ []
  joined_here A unit few = on_set k (units_on k w.to_b ++ unit ∷ []) w.to_b few
  joined_here B unit few = on_set k (units_on k w.to_a ++ unit ∷ []) w.to_a few

  pub joined_off : (end at : End) (unit : SignalUnit) (m : ℕ) → (k == m) ≡ false → line_to (joined w end k unit) at m ≡ line_to w at m
  joined_off A A unit m apart = refl
  joined_off A B unit m apart = on_other m k (units_on k w.to_b ++ unit ∷ []) w.to_b apart
  joined_off B A unit m apart = on_other m k (units_on k w.to_a ++ unit ∷ []) w.to_a apart
  joined_off B B unit m apart = refl

  pub joined_near : (end : End) (unit : SignalUnit) (m : ℕ) → line_to (joined w end k unit) end m ≡ line_to w end m
  joined_near A unit m = refl
  joined_near B unit m = refl

  pub emptied_here : (at : End) → k < length (lines_to w at) → line_to (emptied k w) at k ≡ []
  emptied_here A few = on_set k [] w.to_a few
  emptied_here B few = on_set k [] w.to_b few

  pub emptied_off : (at : End) (m : ℕ) → (k == m) ≡ false → line_to (emptied k w) at m ≡ line_to w at m
  emptied_off A m apart = on_other m k [] w.to_a apart
  emptied_off B m apart = on_other m k [] w.to_b apart

pub set_lines : (w : World) (end at : End) (set : LinkSet) → lines_to (with_end w end set) at ≡ lines_to w at
set_lines w A A set = refl
set_lines w A B set = refl
set_lines w B A set = refl
set_lines w B B set = refl
