-- THE TEXT OF A REPORT: a line for each end of each set, one for each end of each of its links, one of all together, and the
-- verdict.
use Rattle.std.specs.Prelude.{◌==◌, ◌+◌, ◌*◌, ◌/◌, ◌%◌, ◌-◌, ◌^◌, min, ℕ, List, [], ◌∷◌, ◌++◌, codes, decimal, Option, None, Some, Result, Ok, Err, if◌then◌else◌}
use Rattle.link_term.specs.declared.fault.TermFault.{TermFault}
use Rattle.bank_crew.specs.declared.end.SetEnd.{SetEnd}
use Rattle.bank_crew.specs.declared.report.ShiftReport.{ShiftReport}
use Rattle.run_text.specs.declared.figures.Figure.{Figure}
use Rattle.run_text.specs.declared.figures.LinkFigures.{LinkFigures}
use Rattle.run_text.specs.declared.figures.SetFigures.{SetFigures}
use Rattle.run_text.specs.declared.verdict.Missing.{Missing}
use Rattle.run_text.specs.Absences.{absence_text}
use Rattle.run_text.specs.Causes.{cause_name}
use Rattle.run_text.specs.Figures.{capped, link_figures, set_figures, summed}
use Rattle.run_text.specs.Pairs.{pairs_text}

-- AN END OF A SET
abbrev pub came_text : SetFigures → List ℕ
came_text f =
    codes " offered=" ++ (decimal f.offered ++ (codes " delivered=" ++ (decimal f.delivered
    ++ (codes " acknowledged=" ++ (decimal f.acknowledged ++ (codes " taken=" ++ decimal f.taken))))))

abbrev pub left_text : SetFigures → List ℕ
left_text f =
    codes " waiting=" ++ (decimal f.waiting ++ (codes " unacked=" ++ (decimal f.unacked
    ++ (codes " diverted=" ++ (decimal f.diverted ++ (codes " discarded=" ++ (decimal f.discarded
    ++ (codes " retransmitted=" ++ (decimal f.retransmitted ++ codes "\n")))))))))

abbrev pub end_text : ℕ → List ℕ → SetFigures → List ℕ
end_text set end f =
    (codes "set=" ++ (decimal set ++ (codes " end=" ++ end))) ++ (came_text f ++ left_text f)

abbrev pub ends_text : ℕ → SetEnd → SetEnd → List ℕ
ends_text set near far =
    end_text set (codes "a") (set_figures near far) ++ end_text set (codes "b") (set_figures far near)

-- AN END OF A LINK
abbrev pub sent_text : LinkFigures → List ℕ
sent_text f =
    codes " sent=" ++ (decimal f.sent ++ (codes " sent_messages=" ++ (decimal f.sent_messages
    ++ (codes " sent_octets=" ++ (decimal f.sent_octets ++ (codes " again=" ++ decimal f.again))))))

abbrev pub heard_text : LinkFigures → List ℕ
heard_text f =
    codes " heard=" ++ (decimal f.heard ++ (codes " heard_messages=" ++ (decimal f.heard_messages
    ++ (codes " heard_octets=" ++ (decimal f.heard_octets ++ (codes " errors=" ++ decimal f.errors))))))

abbrev pub life_text : LinkFigures → List ℕ
life_text f = codes " ups=" ++ (decimal f.ups ++ (codes " cause=" ++ (cause_name f.cause ++ codes "\n")))

abbrev pub link_text : ℕ → ℕ → List ℕ → LinkFigures → List ℕ
link_text set link end f =
    (codes "set=" ++ (decimal set ++ (codes " link=" ++ (decimal link ++ (codes " end=" ++ end)))))
    ++ (sent_text f ++ (heard_text f ++ life_text f))

-- where a terminal failed there is no line
abbrev pub one_text : ℕ → ℕ → List ℕ → Result ShiftReport TermFault → List ℕ
one_text set link end (Ok report) = link_text set link end (link_figures report)
one_text set link end (Err fault) = []

abbrev pub link_ends_text : ℕ → ℕ → Result ShiftReport TermFault → Result ShiftReport TermFault → List ℕ
link_ends_text set link near far = one_text set link (codes "a") near ++ one_text set link (codes "b") far

-- THE SETS
abbrev pub set_text : ℕ → SetEnd → SetEnd → List ℕ
set_text set near far =
    ends_text set near far ++ pairs_text (link_ends_text set) 0 near.reports.items far.reports.items

abbrev pub sets_text : List SetEnd → List SetEnd → List ℕ
sets_text = pairs_text set_text 0

-- ALL TOGETHER
abbrev pub in_all : Figure → List SetEnd → ℕ
in_all figure [] = 0
in_all figure (end ∷ ends) = summed figure end.reports.items + in_all figure ends

abbrev pub in_both : Figure → List SetEnd → List SetEnd → ℕ
in_both figure near far = capped (in_all figure near + in_all figure far)

-- so much in so many milliseconds, in each second
abbrev pub rate : ℕ → ℕ → ℕ
rate n milliseconds = capped (n * 1000) / (if milliseconds == 0 then 1 else milliseconds)

abbrev pub seconds_text : ℕ → List ℕ
seconds_text milliseconds =
    decimal (milliseconds / 1000) ++ (codes "." ++ (decimal (milliseconds / 100 % 10)
    ++ (decimal (milliseconds / 10 % 10) ++ decimal (milliseconds % 10))))

abbrev pub sum_text : ℕ → ℕ → List ℕ
sum_text messages octets =
    codes "run messages=" ++ (decimal messages ++ (codes " octets=" ++ decimal octets))

abbrev pub rates_text : ℕ → ℕ → List ℕ
rates_text messages octets =
    codes " messages_a_second=" ++ (decimal messages ++ (codes " octets_a_second="
    ++ (decimal octets ++ codes "\n")))

-- where no clock tells the time there is none
abbrev pub time_text : ℕ → ℕ → Option ℕ → List ℕ
time_text messages octets None = codes "\n"
time_text messages octets (Some milliseconds) =
    (codes " seconds=" ++ seconds_text milliseconds)
    ++ rates_text (rate messages milliseconds) (rate octets milliseconds)

abbrev pub total_text : ℕ → ℕ → Option ℕ → List ℕ
total_text messages octets time = sum_text messages octets ++ time_text messages octets time

-- THE VERDICT
abbrev pub verdict_text : Option Missing → List ℕ
verdict_text None = codes "all delivered in order\n"
verdict_text (Some missing) = absence_text missing ++ codes "\n"

-- THE REPORT
abbrev pub report_text : Option ℕ → List SetEnd → List SetEnd → Option Missing → List ℕ
report_text time near far missing =
    sets_text near far
    ++ (total_text (in_both Figure.Heard near far) (in_both Figure.HeardOctets near far) time ++ verdict_text missing)
