use Rattle.std.proofs.Common.{◌≡◌, ◌*◌}
use Rattle.set_queues.specs.Backs.{back_from}
use Rattle.set_queues.proofs.queues.Queues.back_count.Given as goal

abbrev pub invariant-loop-place : goal.invariant-loop-place
invariant-loop-place o l = l.count ≡ back_from (16 * l.home) l.place l.self.lists
