use Rattle.std.proofs.Common.{◌≡◌, map, take}
use Rattle.set_queues.specs.Kept.{lists_of}
use Rattle.set_queues.proofs.buffers.links_copied.Given as goal

abbrev pub invariant-loop-link : goal.invariant-loop-link
invariant-loop-link o l = map lists_of l.copy.items ≡ map lists_of (take l.link-index l.links)
