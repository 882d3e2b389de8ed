use Rattle.std.proofs.Common.{arith}
use Rattle.set_route.proofs.Codes.{codes_more}
use Rattle.set_route.proofs.routes.leave_codes.Goals as goal

pub loop-number-preserved : goal.loop-number-preserved
loop-number-preserved c =
    codes_more c.args.link c.args.codes.now c.loop-number.codes c.loop-number.number _ _ (omega (arith, c.told-codes, c.loop-number-test.true)) c.loop-number.invariant c.leave.ensures
