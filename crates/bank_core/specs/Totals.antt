-- TOTALS of sets.
use Rattle.std.specs.Prelude.{ℕ, Bool, true, false, ◌+◌, ◌≤◌, ◌^◌, List, [], ◌∷◌, if◌then◌else◌}
use Rattle.bank_core.specs.declared.summing.SetTotals.{SetTotals}

-- a set has at most as many messages as a history has entries
abbrev pub IsInRange : SetTotals → Type 0
IsInRange set = (set.accepted ≤ 2 ^ 48) × (set.placed ≤ 2 ^ 48)

abbrev pub accepted_in_all : List SetTotals → ℕ
accepted_in_all [] = 0
accepted_in_all (set ∷ sets) = set.accepted + accepted_in_all sets

abbrev pub placed_in_all : List SetTotals → ℕ
placed_in_all [] = 0
placed_in_all (set ∷ sets) = set.placed + placed_in_all sets

abbrev pub all_are_legal : List SetTotals → Bool
all_are_legal [] = true
all_are_legal (set ∷ sets) = if set.legal then all_are_legal sets else false
