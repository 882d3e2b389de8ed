-- THE TEXT of `run`: what its sets came to at both ends.
use Rattle.std.specs.Prelude.{ℕ, Bool, true, false, List, ◌++◌, map, codes, decimal}
use Rattle.set_model.specs.Rows.{total_of}
use Rattle.bank_crew.specs.declared.end.SetEnd.{SetEnd}
use Rattle.bank_core.specs.declared.summing.SetTotals.{SetTotals}
use Rattle.bank_core.specs.Totals.{accepted_in_all, placed_in_all, all_are_legal}
use Rattle.run_text.specs.Pairs.{pairs_text}

abbrev pub yes_or_no : Bool → List ℕ
yes_or_no true = codes "yes"
yes_or_no false = codes "no"

-- THE SETS.

-- what an end came to; that its history is legal, as that of each end is, is `IsEndOf` of `bank_core`
abbrev pub end_totals : SetEnd → SetTotals
end_totals end = record {
  accepted = end.closed.books.messages;
  placed = total_of end.closed.counts;
  legal = true;
}

abbrev pub totals_text : SetTotals → List ℕ
totals_text totals =
    codes " accepted=" ++ (decimal totals.accepted ++ (codes " placed=" ++ (decimal totals.placed
    ++ (codes " legal=" ++ (yes_or_no totals.legal ++ codes "\n")))))

abbrev pub end_text : ℕ → List ℕ → SetTotals → List ℕ
end_text set end totals =
    codes "set=" ++ (decimal set ++ (codes " end=" ++ (end ++ totals_text totals)))

abbrev pub set_text : ℕ → SetTotals → SetTotals → List ℕ
set_text set a b = end_text set (codes "a") a ++ end_text set (codes "b") b

-- both ends of each set
abbrev pub sets_text : List SetTotals → List SetTotals → List ℕ
sets_text = pairs_text set_text 0

abbrev pub sum_of : List SetTotals → SetTotals
sum_of sets = record {
  accepted = accepted_in_all sets;
  placed = placed_in_all sets;
  legal = all_are_legal sets;
}

abbrev pub total_text : List SetTotals → List SetTotals → List ℕ
total_text near far = codes "total" ++ totals_text (sum_of (near ++ far))

abbrev pub all_text : List SetTotals → List SetTotals → List ℕ
all_text near far = sets_text near far ++ total_text near far

-- THE TEXT
abbrev pub run_text : List SetEnd → List SetEnd → List ℕ
run_text near far = all_text (map end_totals near) (map end_totals far)
