use Rattle.history_audit.specs.Auditing.{IsAuditText}
use Rattle.history_audit.specs.Explaining.{IsExplainedAuditText}
use Rattle.text_calls.specs.declared.running.TextFault.TheVariants.{Audit as AuditedFault, ExplainedAudit as ExplainedAuditedFault}
use Rattle.text_calls.proofs.RunLemmas.{one_fault, prints_all}
use Rattle.text_calls.proofs.running.run_audit.Goals as goal

pub returns-then-explains-clause-text : goal.returns-then-explains-clause-text
returns-then-explains-clause-text g c =
    rw (one_fault ExplainedAuditedFault _ (λ fault given e. e) c.audit_explained.result c.of_any.result c.of_any.ensures, c.if-explains.true)
    (prints_all IsExplainedAuditText ExplainedAuditedFault c.audit_explained.result _ _ _ c.audit_explained.ensures.text)

pub returns-clause-text : goal.returns-clause-text
returns-clause-text g c =
    rw (one_fault AuditedFault _ (λ fault given e. e) c.audit.result c.of_any-2.result c.of_any-2.ensures, c.if-explains.false)
    (prints_all IsAuditText AuditedFault c.audit.result _ _ _ c.audit.ensures.text)
