-- HOW MANY MESSAGES STAND WHERE, and how long the history is: the line of `counts`.
use Rattle.std.specs.Prelude.{ℕ, zero, suc, List, [], ◌++◌, length, codes, decimal}
use Rattle.set_model.specs.Checkpoint.{counts_in}
use Rattle.set_model.specs.History.{LinkSet, entries_in}
use Rattle.set_model.specs.Rows.{held, unack, unsent, wait}
use Rattle.set_model.specs.State.{State, link_count}
use Rattle.terminal_text.specs.declared.counting.Counted.{Counted}

-- by link, orders among them: what waits for it, what was sent on it and isn't acknowledged, and what is held for it; and by
-- stream what users offered that isn't sent yet
abbrev pub count_of : Counted → ℕ → State → ℕ
count_of Counted.Waiting n s = length (wait n s.rows)
count_of Counted.Unacked n s = length (unack n s.rows)
count_of Counted.Held n s = length (held n s.rows)
count_of Counted.Unsent n s = length (unsent n s.rows)

abbrev pub comma_before : ℕ → List ℕ
comma_before zero = []
comma_before (suc n) = codes ","

abbrev pub counts_to : Counted → State → ℕ → List ℕ
counts_to what s zero = []
counts_to what s (suc n) = counts_to what s n ++ (comma_before n ++ decimal (count_of what n s))

abbrev pub link_counts : State → List ℕ
link_counts s =
    codes "counts waiting=" ++ (counts_to Counted.Waiting s (link_count s)
    ++ (codes " unacked=" ++ (counts_to Counted.Unacked s (link_count s)
    ++ (codes " held=" ++ (counts_to Counted.Held s (link_count s)
    ++ (codes " unsent=" ++ counts_to Counted.Unsent s 16))))))

-- the messages for which there is no link, those that wait for a changeback, and those that were heard and not taken; the
-- entries since the last checkpoint, and since the opening
abbrev pub other_counts : LinkSet → List ℕ
other_counts set =
    codes " parked=" ++ (decimal (counts_in set.state).parked
    ++ (codes " back=" ++ (decimal (counts_in set.state).back
    ++ (codes " inbox=" ++ (decimal (length set.state.inbox)
    ++ (codes " entries=" ++ (decimal (length set.history)
    ++ (codes " all=" ++ (decimal (entries_in set) ++ codes "\n")))))))))

abbrev pub counts_text : LinkSet → List ℕ
counts_text set = link_counts set.state ++ other_counts set
