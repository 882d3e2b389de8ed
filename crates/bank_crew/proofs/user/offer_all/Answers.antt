use Rattle.std.proofs.Common.{◌∙◌}
use Rattle.bank_crew.proofs.Calling.{none_left, one_ended, one_offered}
use Rattle.bank_crew.proofs.user.offer_all.Goals as goal

-- src/user.rt
pub loop-body-preserved : goal.loop-body-preserved
loop-body-preserved g c =
    let kept = c.loop-body.invariant in (
      c.pause.ensures.who ∙ c.offer_one.ensures.who ∙ kept.0,
      (λ ended after rest. kept.1 ended after (one_offered (λ body. body.items) _ _ c.args.bodies.now c.loop-body.body-index c.body-item.result c.loop-body-test.true c.body-item.is kept.0 _ c.deref.ensures.value c.offer_one.result _ _ c.in_default.is c.offer_one.ensures.offers ended after (rw c.pause.ensures.all at rest))),
    )

pub returns-in-Err-clause-offers : goal.returns-in-Err-clause-offers
returns-in-Err-clause-offers g c =
    let kept = c.loop-body.invariant in
    kept.1 _ _ (one_ended (λ body. body.items) _ _ c.args.bodies.now c.loop-body.body-index c.body-item.result c.loop-body-test.true c.body-item.is kept.0 _ c.deref.ensures.value c.offer_one.result c.in-Err.fault _ _ c.in-Err.is c.offer_one.ensures.offers)

pub returns-clause-offers : goal.returns-clause-offers
returns-clause-offers g c = c.loop-body.invariant.1 _ _ (none_left (λ body. body.items) _ c.args.bodies.now c.loop-body.body-index _ c.loop-body-test.false)
