use Rattle.set_core.proofs.Heard.{can_begin, heard_none}
use Rattle.set_core.proofs.auditor.Auditor.since.Goals as goal

-- src/auditor.rt
pub invariant_of-result : goal.invariant_of-result
invariant_of-result o c = can_begin c.args.base.now c.tally.ensures.0 _ c.tally.result _ c.tally.ensures.1 c.in_ok-core.ensures

pub returns-clause-ok : goal.returns-clause-ok
returns-clause-ok o c = heard_none c.args.base.now c.tally.ensures.0 _ c.tally.result _ c.tally.ensures.1 c.in_ok-core.ensures
