use Rattle.std.specs.Vec.Iter.{into_iter_items}
use Rattle.bank_crew.proofs.Taking.{ran_out}
use Rattle.bank_core.proofs.Ending.{none_left_out}
use Rattle.bank_core.proofs.running.sort_out.Goals as goal

-- src/running.rt
pub returns-clause-ends : goal.returns-clause-ends
returns-clause-ends c = none_left_out c.args.answers.items (into_iter_items c.loop-answer.answers) c.loop-answer.ends.items (ran_out _ _ c.next.result _ _ c.next.ensures.cases c.loop-answer.invariant.1 c.in_default.is) c.loop-answer.invariant.0
