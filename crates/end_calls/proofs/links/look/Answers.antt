use Rattle.end_calls.proofs.LookLemmas.{looks_of}
use Rattle.end_calls.proofs.links.look.Goals as goal

pub returns-clause-looks : goal.returns-clause-looks
returns-clause-looks c =
    looks_of c.args.link c.args.end.now c.bench-bench.result.now c.counts.result c.word.result c.phase.result c.cause.result
    c.is_activated.result c.looked.result c.bench-bench.ensures.bench c.counts.ensures c.word.ensures c.cause.ensures c.phase.ensures
    c.is_activated.ensures c.looked.ensures
