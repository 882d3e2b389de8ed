use Rattle.end_calls.specs.Looking.{by_level3}
use Rattle.end_calls.proofs.links.deactivate.Goals as goal

pub returns-in-Err-clause-deactivates : goal.returns-in-Err-clause-deactivates
returns-in-Err-clause-deactivates c = by_level3 c.in-Err.fault c.of_manage.ensures c.in-Err.ensures.err
