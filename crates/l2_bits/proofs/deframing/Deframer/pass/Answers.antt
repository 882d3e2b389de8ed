use Rattle.l2_bits.proofs.FeedingLemmas.{none_of_eight}
use Rattle.l2_bits.proofs.deframing.Deframer.pass.Goals as goal

pub returns-clause-stands : goal.returns-clause-stands
returns-clause-stands c = λ past is _.
    rw (← c.from-bits.ensures) (c.run.ensures past is (none_of_eight c.args.self.now.last c.from-bits.result c.fives.result c.fives.ensures c.if-fives-ne0.false)).stands

pub returns-clause-marks : goal.returns-clause-marks
returns-clause-marks c = λ past is _.
    rw (← c.from-bits.ensures) (c.run.ensures past is (none_of_eight c.args.self.now.last c.from-bits.result c.fives.result c.fives.ensures c.if-fives-ne0.false)).marks
