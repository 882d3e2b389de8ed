-- The alignment error rate monitor (Q.703 10.3), which counts the errors of one proving.
use Rattle.std.specs.Prelude.{◌≡◌, ℕ, ◌-◌, ◌≤◌, Bool, true, false, if◌then◌else◌, List, [], ◌∷◌}
use Rattle.l2_monitors.specs.Marks.{errors}

-- the errors that trip it: Tie = 1 in emergency proving, Tin = 4 in normal proving
abbrev pub threshold : Bool → ℕ
threshold true = 1
threshold false = 4

-- it trips at the error that reaches the threshold, and stays so
abbrev pub HasTripped : Bool → List Bool → Type 0
HasTripped emergency marks = threshold emergency ≤ errors marks

-- these marks of a proving leave a monitor as it is now: that many errors trip it
abbrev pub Leaves : Bool → List Bool → ℕ → Type 0
Leaves emergency marks now = now ≡ threshold emergency - errors marks

-- what one more mark makes of a monitor, of which the errors are told that trip it yet: an error takes one off
abbrev pub after_mark : ℕ → Bool → ℕ
after_mark left error = left - (if error then 1 else 0)

-- what marks make of it, one after another
abbrev pub after_marks : ℕ → List Bool → ℕ
after_marks left [] = left
after_marks left (mark ∷ marks) = after_marks (after_mark left mark) marks

-- mark by mark, a monitor becomes what all its marks together leave
abbrev pub KeepsItsPast : Type 0
KeepsItsPast = (emergency : Bool) (marks : List Bool) → Leaves emergency marks (after_marks (threshold emergency) marks)
