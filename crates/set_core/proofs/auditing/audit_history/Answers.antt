use Rattle.set_core.proofs.auditing.audit_history.Goals as goal

pub returns-clause-legal : goal.returns-clause-legal
returns-clause-legal c = rw c.in_ok-opening.ensures.ok at c.audit_history_from.ensures.legal
