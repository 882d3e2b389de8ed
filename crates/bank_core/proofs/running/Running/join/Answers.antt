use Rattle.std.proofs.Common.{subst}
use Rattle.std.proofs.lemmas.Result.{IfOk-weaker}
use Rattle.bank_core.specs.Ends.{AreEndsOver}
use Rattle.bank_core.proofs.Ending.{all_came}
use Rattle.bank_core.proofs.running.Running.join.Goals as goal

-- src/running.rt
pub returns-clause-ends : goal.returns-clause-ends
returns-clause-ends g c =
    IfOk-weaker c.sort_out.result _ _
    (λ ends came. subst (λ tasks. AreEndsOver g.L.Line tasks ends.items) c.self.view_is
    (all_came g.L.Line (λ thread. thread.promise) c.self.inside.threads.items c.wait_for_all-answers.result.items ends.items c.wait_for_all-answers.ensures.answers came))
    c.sort_out.ensures.ends
