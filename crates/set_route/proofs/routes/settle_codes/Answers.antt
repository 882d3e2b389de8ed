use Rattle.std.proofs.Common.{arith}
use Rattle.set_route.specs.Routing.{code_settled}
use Rattle.set_route.proofs.Places.{one_more}
use Rattle.set_route.proofs.routes.settle_codes.Goals as goal

pub loop-code-preserved : goal.loop-code-preserved
loop-code-preserved c =
    one_more (code_settled c.args.link c.args.target) c.args.codes.now c.loop-code.codes c.loop-code.code-index _ _ (omega (arith, c.told-codes, c.loop-code-test.true)) c.loop-code.invariant c.settle.ensures
