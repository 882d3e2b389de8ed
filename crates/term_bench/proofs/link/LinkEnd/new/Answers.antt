use Rattle.term_bench.proofs.LinkLemmas.{new_at}
use Rattle.term_bench.proofs.link.LinkEnd.new.Goals as goal

pub returns : goal.returns
returns c = new_at c.new.result c.args.lengths c.args.link c.new.ensures.inside c.new.ensures.taken c.new.ensures.failed
