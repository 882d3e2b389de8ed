use Rattle.std.proofs.Common.{arith, suc, ◌+◌, ◌-◌, ◌≡◌}
use Rattle.set_changeover.proofs.changeback.has_code_in_use.Goals as goal

pub loop-alternative-preserved : goal.loop-alternative-preserved
loop-alternative-preserved o c = λ s f.
    let more : 16 - c.loop-alternative.alternative ≡ suc (16 - (c.loop-alternative.alternative + 1)) = omega arith in
    grind (arith, more, c.loop-alternative.invariant s f, f.routing, c.code.ensures, c.is_free.ensures, c.if-not-is_free.false)
