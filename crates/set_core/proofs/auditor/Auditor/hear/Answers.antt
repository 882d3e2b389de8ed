use Rattle.set_core.proofs.auditor.Auditor.hear.Goals as goal

-- src/auditor.rt
pub returns-in-Entered-clause-found : goal.returns-in-Entered-clause-found
returns-in-Entered-clause-found g c = λ base items heard.
    rw c.in-Entered.is (rw (c.of.ensures.value, c.of-in-Entered.ensures.value) at (c.hear_entry.ensures.found base items heard))
