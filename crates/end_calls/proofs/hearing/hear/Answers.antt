use Rattle.end_calls.specs.Hearing.{broken}
use Rattle.end_calls.proofs.hearing.hear.Goals as goal

pub returns-in-Err-clause-hears : goal.returns-in-Err-clause-hears
returns-in-Err-clause-hears c = broken c.in-Err.fault c.of_term.ensures c.in-Err.ensures.some
