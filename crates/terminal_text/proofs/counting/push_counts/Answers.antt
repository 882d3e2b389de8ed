use Rattle.terminal_text.proofs.CountingLemmas.{one_more}
use Rattle.terminal_text.proofs.counting.push_counts.Goals as goal

pub loop-number-preserved : goal.loop-number-preserved
loop-number-preserved c = one_more c.args.what c.args.set.now.state c.loop-number.number c.count_of.result c.args.out.now.items c.loop-number.out.items
    c.push_comma.new.out.items c.push_number.new.text.items c.loop-number.invariant c.in_ok-push_comma.ensures c.count_of.ensures c.in_ok-push_number.ensures
