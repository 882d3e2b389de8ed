use Rattle.l2_bits.specs.Deframing.{unit_of}
use Rattle.l2_bits.proofs.TwoMarkLemmas.{mark_fits}
use Rattle.l2_bits.proofs.deframing.Deframer.feed.Goals as goal

pub returns-clause-mark : goal.returns-clause-mark
returns-clause-mark c = λ past is.
    let mark = rw c.in_ok-kind.was at (c.step.ensures.mark past is) in
    rw (c.ended.ensures (mark_fits c.in_ok-kind.kind past c.args.bit (unit_of c.step.new.self) mark)) mark
