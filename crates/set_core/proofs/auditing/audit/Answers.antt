use Rattle.set_core.proofs.auditing.audit.Goals as goal

pub returns-clause-legal : goal.returns-clause-legal
returns-clause-legal o c = rw c.in_ok-opening.ensures.ok at c.audit_from.ensures.legal
