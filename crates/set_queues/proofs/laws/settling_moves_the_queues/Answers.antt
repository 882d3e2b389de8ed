use Rattle.set_queues.proofs.Soundness.{settling}
use Rattle.set_queues.proofs.laws.settling_moves_the_queues.Goals as goal

pub returns : goal.returns
returns c = λ link to q known other queued unsent held. settling link to q (record { known = known; other = other; queued = queued; unsent = unsent; held = held })
