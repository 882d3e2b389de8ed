use Rattle.text_base.proofs.PrintLemmas.{closes, devices}
use Rattle.text_base.proofs.printing.end.Goals as goal

pub returns-clause-closes : goal.returns-clause-closes
returns-clause-closes g c =
    rw c.answered.ensures (closes g.P.Printer.is_text c.end-ended.result c.write_all-written.result _ _ _ _ _ c.new-out.ensures.items
    c.end-ended.ensures (rw (← c.deref.ensures.value) c.write_all-written.ensures.writes))

pub returns-clause-failed : goal.returns-clause-failed
returns-clause-failed g c = rw c.answered.ensures (devices c.end-ended.result c.write_all-written.result _ _ c.write_all-written.ensures.failed)
