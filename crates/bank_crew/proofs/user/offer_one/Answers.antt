use Rattle.bank_crew.proofs.Calling.{after_none, after_some}
use Rattle.bank_crew.proofs.user.offer_one.Goals as goal

-- src/user.rt
pub returns-in-Some-clause-offers : goal.returns-in-Some-clause-offers
returns-in-Some-clause-offers g c = (
  c.offer-offered.result,
  c.offer-offered.new.self.all,
  c.offer-offered.ensures.calls,
  after_some _ _ c.offer-offered.result c.number_of.result c.in-Some.number _ _ _ c.number_of.ensures c.in-Some.is c.offer-offered.ensures.who c.find_one.ensures.finds,
)

pub returns-in-None-clause-offers : goal.returns-in-None-clause-offers
returns-in-None-clause-offers g c = (
  c.offer-offered.result,
  c.offer-offered.new.self.all,
  c.offer-offered.ensures.calls,
  after_none _ c.offer-offered.result c.number_of.result _ _ c.number_of.ensures c.in-None.is c.end_of_call.ensures,
)
