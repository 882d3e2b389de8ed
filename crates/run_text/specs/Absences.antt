-- WHY A MESSAGE IS MISSING at the end b of a set, by how the messages of its end a stand.
use Rattle.std.specs.Prelude.{◌≡◌, ◌==◌, ◌+◌, ◌*◌, nat_lt, ℕ, List, [], ◌∷◌, ◌++◌, codes, decimal, slice_get, Option, None, Some, Result, Ok, Err, if◌then◌else◌}
use Rattle.link_term.specs.declared.fault.TermFault.{TermFault}
use Rattle.set_events.specs.declared.answer.Counts.{Counts}
use Rattle.bank_traffic.specs.declared.asked.Traffic.{Traffic}
use Rattle.bank_crew.specs.declared.end.SetEnd.{SetEnd}
use Rattle.bank_crew.specs.declared.report.ShiftReport.{ShiftReport}
use Rattle.run_text.specs.Causes.{cause_name}
use Rattle.run_text.specs.declared.verdict.Absence.{Absence}
use Rattle.run_text.specs.declared.verdict.Absence.TheVariants.{Lost, GivenUp, Unfinished}
use Rattle.run_text.specs.declared.verdict.Missing.{Missing}

-- the cause of the last failure of the first link that failed, or 0
abbrev pub first_cause : List (Result ShiftReport TermFault) → ℕ
first_cause [] = 0
first_cause (Ok report ∷ reports) =
    if report.turns.cause == 0 then first_cause reports else report.turns.cause
first_cause (Err fault ∷ reports) = first_cause reports

-- messages that wait or aren't acknowledged
abbrev pub unfinished : Counts → ℕ
unfinished c = c.waiting + c.held + c.parked + c.back + c.unacked

-- messages were given up; or the turns ended before all of so many were offered and acknowledged
abbrev pub absence_of : ℕ → SetEnd → Absence
absence_of offered end =
    if nat_lt 0 end.closed.counts.discarded then GivenUp (first_cause end.reports.items)
    else (if nat_lt 0 (unfinished end.closed.counts) then Unfinished
    else (if nat_lt end.closed.books.messages offered then Unfinished else Lost))

abbrev pub absence_at : ℕ → Option SetEnd → Absence
absence_at offered None = Lost
absence_at offered (Some end) = absence_of offered end

-- of the traffic that came to these ends a
abbrev pub IsExplained : Traffic → List SetEnd → Option Missing → Type 0
IsExplained traffic near None = Unit {0}
IsExplained traffic near (Some missing) =
    missing.why ≡ absence_at (traffic.users * traffic.messages) (slice_get near missing.set)

-- THE TEXT
abbrev pub place_text : Missing → List ℕ
place_text missing =
    codes " set=" ++ (decimal missing.set ++ (codes " stream=" ++ (decimal missing.stream
    ++ (codes " message=" ++ decimal missing.message))))

abbrev pub text_by : Absence → Missing → List ℕ
text_by Lost missing = codes "missing" ++ place_text missing
text_by (GivenUp cause) missing =
    codes "given-up" ++ (place_text missing ++ (codes " cause=" ++ cause_name cause))
text_by Unfinished missing = codes "unfinished" ++ place_text missing

abbrev pub absence_text : Missing → List ℕ
absence_text missing = text_by missing.why missing
