use Rattle.term_bench.proofs.LinkLemmas.{new_are_numbered}
use Rattle.term_bench.proofs.bench.Bench.new.Goals as goal

pub invariant_of-result : goal.invariant_of-result
invariant_of-result c = new_are_numbered c.in_ok-links.links.items c.args.lengths c.args.config.now.links c.in_ok-links.ensures
    c.args.config.now.links_in_range
