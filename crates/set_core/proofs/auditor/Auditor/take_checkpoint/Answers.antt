use Rattle.std.proofs.Common.{refl}
use Rattle.set_core.proofs.Heard.{can_checkpoint, checkpoint_found}
use Rattle.set_core.proofs.auditor.Auditor.take_checkpoint.Goals as goal

-- src/auditor.rt
pub invariant_of-self-2 : goal.invariant_of-self-2
invariant_of-self-2 o c = can_checkpoint _ _ c.self.invariant c.in_ok-forget.ensures.ok refl

pub returns-clause-found : goal.returns-clause-found
returns-clause-found o c = λ base items heard.
    checkpoint_found base items c.args.self.now c.self.inside.core c.forget.new.self c.self.inside.tally c.self.inside.reply c.self.view_is heard c.in_ok-forget.ensures.ok
