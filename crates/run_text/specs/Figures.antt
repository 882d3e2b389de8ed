-- THE FIGURES of a run: what an end of a set came to, and an end of a link.
use Rattle.std.specs.Prelude.{ℕ, ◌+◌, ◌-◌, ◌^◌, min, List, [], ◌∷◌, length, Result, Ok, Err}
use Rattle.link_term.specs.declared.fault.TermFault.{TermFault}
use Rattle.bank_crew.specs.declared.end.SetEnd.{SetEnd}
use Rattle.bank_crew.specs.declared.fault.UserFault.{UserFault}
use Rattle.bank_crew.specs.declared.report.ShiftReport.{ShiftReport}
use Rattle.bank_crew.specs.declared.report.UserReport.{UserReport}
use Rattle.run_text.specs.declared.figures.Figure.{Figure}
use Rattle.run_text.specs.declared.figures.LinkFigures.{LinkFigures}
use Rattle.run_text.specs.declared.figures.SetFigures.{SetFigures}

-- a sum is told up to 2^64 - 1
abbrev pub capped : ℕ → ℕ
capped n = min n (2 ^ 64 - 1)

-- what a link brings to a sum
abbrev pub of_report : Figure → ShiftReport → ℕ
of_report Figure.Heard report = report.answered.messages
of_report Figure.Diverted report = report.carried.diverted
of_report Figure.Again report = report.carried.again
of_report Figure.HeardOctets report = report.carried.heard_octets

abbrev pub brought : Figure → Result ShiftReport TermFault → ℕ
brought figure (Ok report) = of_report figure report
brought figure (Err fault) = 0

abbrev pub summed : Figure → List (Result ShiftReport TermFault) → ℕ
summed figure [] = 0
summed figure (report ∷ reports) = brought figure report + summed figure reports

-- how many messages users took and kept
abbrev pub taken_by : Result UserReport UserFault → ℕ
taken_by (Ok report) = length report.taken.items
taken_by (Err fault) = 0

abbrev pub taken_in : List (Result UserReport UserFault) → ℕ
taken_in [] = 0
taken_in (user ∷ users) = taken_by user + taken_in users

-- AN END OF A SET, beside the other end
abbrev pub set_figures : SetEnd → SetEnd → SetFigures
set_figures own other = record {
  offered = own.closed.books.messages;
  delivered = capped (summed Figure.Heard other.reports.items);
  acknowledged = own.closed.counts.acked;
  taken = capped (taken_in own.users.items);
  waiting = capped (capped (capped (own.closed.counts.waiting + own.closed.counts.held) + own.closed.counts.parked)
      + own.closed.counts.back);
  unacked = own.closed.counts.unacked;
  diverted = capped (summed Figure.Diverted own.reports.items);
  discarded = own.closed.counts.discarded;
  retransmitted = capped (summed Figure.Again own.reports.items);
}

-- AN END OF A LINK, by what its terminal reports
abbrev pub link_figures : ShiftReport → LinkFigures
link_figures report = record {
  ups = report.carried.ups;
  cause = report.turns.cause;
  sent = report.turns.sent;
  sent_messages = report.carried.sent;
  sent_octets = report.carried.sent_octets;
  again = report.carried.again;
  heard = report.turns.good;
  heard_messages = report.answered.messages;
  heard_octets = report.carried.heard_octets;
  errors = capped (report.turns.bad + report.turns.sixteen);
}
