use Rattle.end_calls.specs.Looking.{by_level3}
use Rattle.end_calls.proofs.links.activate.Goals as goal

pub returns-in-Err-clause-activates : goal.returns-in-Err-clause-activates
returns-in-Err-clause-activates c = by_level3 c.in-Err.fault c.of_manage.ensures c.in-Err.ensures.err
