use Rattle.std.proofs.Common.{◌∙◌, ap}
use Rattle.pair_steps.specs.Nests.{joined}
use Rattle.pair_steps.proofs.Nesting.{empty_behind}
use Rattle.pair_steps.proofs.chain.make_room.Goals as goal

-- src/chain.rt
pub returns-in_ok-push-clause-same : goal.returns-in_ok-push-clause-same
returns-in_ok-push-clause-same g c =
    ap (joined g.S.HasUnits.units) c.in_ok-push.ensures.items
    ∙ empty_behind g.S.HasUnits.units c.args.parts.now.items c.new.result c.new.ensures
