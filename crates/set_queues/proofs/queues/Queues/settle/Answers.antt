use Rattle.std.proofs.Common.{arith}
use Rattle.set_queues.proofs.Soundness.{settles}
use Rattle.set_queues.proofs.queues.Queues.settle.Goals as goal

pub returns : goal.returns
returns o c = record { lists = grind arith; messages = grind (arith, settles); room = cc; rooms = λ fate. grind (arith, settles, c.pass_all.ensures.rooms fate, c.pass_all-2.ensures.rooms fate, c.pass_all-3.ensures.rooms fate) }
