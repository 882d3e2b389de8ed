use Rattle.std.proofs.Common.{arith}
use Rattle.set_queues.proofs.Soundness.{waits_known}
use Rattle.set_changeover.proofs.Links.{found}
use Rattle.set_changeover.proofs.settling.unsent_order.Goals as goal

pub returns-in-Waiting-clause-known : goal.returns-in-Waiting-clause-known
returns-in-Waiting-clause-known o c = let known = waits_known c.args.parts.now.queues.lists c.args.parts.now.queues.messages c.index.result.now.order in grind (arith, known, c.is_sound.ensures)

pub returns-in_default : goal.returns-in_default
returns-in_default o c = let there = found c.args.parts.now.links.items c.args.number c.from.result c.index.result.now c.from.ensures c.requires.known c.index.ensures in record {
  value = λ link at. grind (arith, there);
  known = tt;
  queued = tt;
}
