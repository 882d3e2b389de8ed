use Rattle.std.proofs.Common.{refl, length}
use Rattle.set_history.proofs.OneMore.{opened_are, opened_same}
use Rattle.set_history.proofs.pushing.open_run.Goals as goal

pub returns-then-last-gt0-clause-are : goal.returns-then-last-gt0-clause-are
returns-then-last-gt0-clause-are g c = opened_are c.args.runs.now.items c.begin_run.new.runs.items c.args.last.now c.begin_run.new.last c.args.octets.now (length c.args.octets.now) refl c.requires.are c.begin_run.ensures.runs c.begin_run.ensures.last

pub returns-then-last-gt0-clause-same : goal.returns-then-last-gt0-clause-same
returns-then-last-gt0-clause-same g c = opened_same c.args.runs.now.items c.begin_run.new.runs.items c.args.last.now c.begin_run.new.last c.args.octets.now (length c.args.octets.now) refl c.requires.are c.begin_run.ensures.runs c.begin_run.ensures.last
