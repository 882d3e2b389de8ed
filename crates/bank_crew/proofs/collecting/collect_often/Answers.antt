use Rattle.std.proofs.Common.{◌∙◌}
use Rattle.bank_crew.proofs.Calling.{no_take_left, one_taken, take_ended}
use Rattle.bank_crew.proofs.collecting.collect_often.Goals as goal

-- src/collecting.rt
pub loop-time-preserved : goal.loop-time-preserved
loop-time-preserved g c =
    let kept = c.loop-time.invariant in (
      c.pause.ensures.who ∙ c.collect_one.ensures.who ∙ kept.0,
      rw c.pause.ensures.all (c.in_default.ensures.kept kept.1),
      (λ ended after rest. kept.2 ended after (one_taken _ _ c.args.times c.loop-time._time c.loop-time-test.true kept.0 c.collect_one.result _ _ c.in_default.is c.collect_one.ensures.takes ended after (rw c.pause.ensures.all at rest))),
    )

pub returns-in-Err-clause-takes : goal.returns-in-Err-clause-takes
returns-in-Err-clause-takes g c =
    let kept = c.loop-time.invariant in
    kept.2 _ _ (take_ended _ _ c.args.times c.loop-time._time c.loop-time-test.true kept.0 c.collect_one.result c.in-Err.fault _ _ c.in-Err.is c.collect_one.ensures.takes)

pub returns-clause-takes : goal.returns-clause-takes
returns-clause-takes g c = c.loop-time.invariant.2 _ _ (no_take_left _ c.args.times c.loop-time._time _ c.loop-time-test.false)
