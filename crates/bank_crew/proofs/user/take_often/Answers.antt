use Rattle.std.proofs.Common.{◌∙◌}
use Rattle.bank_crew.proofs.Calling.{no_take_left, one_taken, take_ended}
use Rattle.bank_crew.proofs.user.take_often.Goals as goal

-- src/user.rt
pub loop-time-preserved : goal.loop-time-preserved
loop-time-preserved g c =
    let kept = c.loop-time.invariant in (
      c.pause.ensures.who ∙ c.take_one.ensures.who ∙ kept.0,
      (λ ended after rest. kept.1 ended after (one_taken _ _ c.args.times c.loop-time._time c.loop-time-test.true kept.0 c.take_one.result _ _ c.in_default.is c.take_one.ensures.takes ended after (rw c.pause.ensures.all at rest))),
    )

pub returns-in-Err-clause-takes : goal.returns-in-Err-clause-takes
returns-in-Err-clause-takes g c =
    let kept = c.loop-time.invariant in
    kept.1 _ _ (take_ended _ _ c.args.times c.loop-time._time c.loop-time-test.true kept.0 c.take_one.result c.in-Err.fault _ _ c.in-Err.is c.take_one.ensures.takes)

pub returns-clause-takes : goal.returns-clause-takes
returns-clause-takes g c = c.loop-time.invariant.1 _ _ (no_take_left _ c.args.times c.loop-time._time _ c.loop-time-test.false)
