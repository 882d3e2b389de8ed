use Rattle.term_model.proofs.OrderRowValues.{timer_rows, heard_rows, outage_rows, sent_rows}
use Rattle.term_model.proofs.RowValues.{alignment_rows, service_rows, sio_goes_out}
use Rattle.term_model.proofs.laws.rows_come_out.Goals as goal

pub returns-clause-alignment : goal.returns-clause-alignment
returns-clause-alignment c = alignment_rows

pub returns-clause-service : goal.returns-clause-service
returns-clause-service c = service_rows

pub returns-clause-line : goal.returns-clause-line
returns-clause-line c = sio_goes_out

pub returns-clause-timers : goal.returns-clause-timers
returns-clause-timers c = timer_rows

pub returns-clause-heard : goal.returns-clause-heard
returns-clause-heard c = heard_rows

pub returns-clause-outage : goal.returns-clause-outage
returns-clause-outage c = outage_rows

pub returns-clause-sent : goal.returns-clause-sent
returns-clause-sent c = sent_rows
