use Rattle.pair_world.proofs.WorldLemmas.{emit_fails}
use Rattle.pair_world.proofs.world.World.emit.Goals as goal

pub returns-in_err-act-clause-carried : goal.returns-in_err-act-clause-carried
returns-in_err-act-clause-carried o c =
    emit_fails c.from_residual.result c.in_err-act.field-0.0 c.args.self.now c.args.end c.args.link _ _ c.from_residual.ensures.1
    c.in_err-act.ensures.acts
