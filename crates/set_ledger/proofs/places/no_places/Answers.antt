use Rattle.set_ledger.proofs.Placing.{none_at}
use Rattle.set_ledger.proofs.places.no_places.Goals as goal

pub returns : goal.returns
returns c = none_at c.default.result c.default.ensures.long c.default.ensures.at
