use Rattle.text_base.proofs.PrintLemmas.{passes, devices}
use Rattle.text_base.proofs.printing.pass.Goals as goal

pub returns-clause-passes : goal.returns-clause-passes
returns-clause-passes g c =
    rw c.answered.ensures (passes g.P.Printer.is_text c.read-read.result c.write_all-written.result _ _ c.args.octets.now _ _ _ _ c.new-out.ensures.items
    c.read-read.ensures (rw (← c.deref.ensures.value) c.write_all-written.ensures.writes))

pub returns-clause-failed : goal.returns-clause-failed
returns-clause-failed g c = rw c.answered.ensures (devices c.read-read.result c.write_all-written.result _ _ c.write_all-written.ensures.failed)
