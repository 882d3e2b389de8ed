use Rattle.set_core.proofs.auditor.Auditor.new.Goals as goal

-- src/auditor.rt
pub returns-clause-ok : goal.returns-clause-ok
returns-clause-ok o c = rw c.in_ok-opening.ensures.ok at c.since.ensures.ok
