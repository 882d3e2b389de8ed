-- The signal unit error rate monitor (Q.703 10.2): T = 64, D = 256. Marks are numbered from 1.
use Rattle.std.specs.Prelude.{◌≡◌, ℕ, ◌+◌, ◌-◌, ◌/◌, ◌%◌, ◌≤◌, ◌↔◌, ◌==◌, ◌&&◌, Bool, true, false, if◌then◌else◌, IsTrue, List, [], ◌∷◌, ◌++◌, length, drop}
use Rattle.l2_monitors.specs.Marks.{errors}

-- how many of the numbers j + 1 to n, for j at most n, are multiples of 256
abbrev pub multiples_between : ℕ → ℕ → ℕ
multiples_between j n = n / 256 - j / 256

-- The count after the marks: the greatest, over j from 0 to their number, of the errors after the mark j less
-- the multiples of 256 after it. The last j has neither, so the count is never below 0.
pub record IsCount (marks : List Bool) (count : ℕ) : Type 0 where
  pub reached : (j : ℕ) × (j ≤ length marks) × (count + multiples_between j (length marks) ≡ errors (drop j marks))
  pub greatest : (j : ℕ) → j ≤ length marks → errors (drop j marks) ≤ count + multiples_between j (length marks)

-- one of the marks is an error that found the count 63: the first such mark trips the monitor, which stays so
pub record HasTripped (marks : List Bool) : Type 0 where
  pub before : List Bool
  pub after : List Bool
  pub split : marks ≡ (before ++ true ∷ []) ++ after
  pub found : IsCount before 63

-- what a monitor keeps of its past; once it has tripped only that counts
pub record Kept : Type 0 where
  pub tripped : Bool
  pub count : ℕ
  -- the number of marks, modulo 256
  pub place : ℕ

-- a monitor that was given no mark
abbrev pub fresh : Kept
fresh = record { tripped = false; count = 0; place = 0 }

-- the place of the mark behind one at this place
abbrev pub place_after : ℕ → ℕ
place_after place = (place + 1) % 256

-- a mark that doesn't trip it: an error raises the count by one, and the place 0 lowers it by one, not below 0
abbrev pub counted : Kept → Bool → Kept
counted now error = record {
  tripped = false;
  count = now.count + (if error then 1 else 0) - (if place_after now.place == 0 then 1 else 0);
  place = place_after now.place;
}

-- the mark that trips it
abbrev pub tripping : Kept → Kept
tripping now = record { tripped = true; count = now.count; place = now.place }

-- what one more mark makes of a monitor: one that has tripped stays so, and an error that finds the count 63 trips it
abbrev pub after_mark : Kept → Bool → Kept
after_mark now error =
    if now.tripped then now else if error && (now.count == 63) then tripping now else counted now error

-- what marks make of it, one after another
abbrev pub after_marks : Kept → List Bool → Kept
after_marks now [] = now
after_marks now (mark ∷ marks) = after_marks (after_mark now mark) marks

-- these marks leave a monitor as it is now
pub record Leaves (marks : List Bool) (now : Kept) : Type 0 where
  pub tripped : IsTrue now.tripped ↔ HasTripped marks
  pub count : now.tripped ≡ false → IsCount marks now.count
  pub place : now.tripped ≡ false → now.place ≡ length marks % 256

-- mark by mark, a monitor becomes what all its marks together leave
abbrev pub KeepsItsPast : Type 0
KeepsItsPast = (marks : List Bool) → Leaves marks (after_marks fresh marks)
