use Rattle.std.proofs.Common.{arith}
use Rattle.l2_window.proofs.Inserting.{passes}
use Rattle.l2_window.proofs.queue.Queue.insert_reserved.Goals as goal

pub loop-behind-preserved : goal.loop-behind-preserved
loop-behind-preserved g c = grind (arith, passes c.loop-behind.behind c.args.self.now.messages c.args.message c.unwrap-next.result.now)
