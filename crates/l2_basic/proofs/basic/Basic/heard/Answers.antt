use Rattle.std.proofs.Common.{arith}
use Rattle.l2_basic.proofs.Choosing.{hears_nothing}
use Rattle.l2_basic.proofs.basic.Basic.heard.Goals as goal

pub returns-else-part-gt0 : goal.returns-else-part-gt0
returns-else-part-gt0 o c =
    hears_nothing _ _ _ _ _ _ (c.hear-part.ensures.nothing (omega (arith, c.if-part-gt0.false))) c.hear-part.ensures.part c.hear-part.ensures.state
