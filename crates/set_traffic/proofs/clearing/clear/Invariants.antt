use Rattle.std.proofs.Common.{◌≡◌, ◌<◌, length}
use Rattle.set_queues.specs.Buffers.{Waiting, queue_at}
use Rattle.set_model.specs.State.{State}
use Rattle.set_changeover.specs.Agreement.{StandsFor}
use Rattle.set_changeover.specs.Parts.{kept_of}
use Rattle.set_traffic.proofs.Overtaken.{ClearsOn}
use Rattle.set_traffic.proofs.clearing.clear.Given as goal

abbrev pub invariant-loop-parts : goal.invariant-loop-parts
invariant-loop-parts o l = record {
  links : l.parts.links ≡ l.initial.parts.links;
  queue : l.number < length l.parts.queues.lists.links;
  clears : (s : State) → StandsFor (kept_of l.initial.parts) s → ClearsOn l.number s (kept_of l.parts);
}

abbrev pub decreases-loop-parts : goal.decreases-loop-parts
decreases-loop-parts o l = length (queue_at (Waiting l.number) l.parts.queues.lists)
