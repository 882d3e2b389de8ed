use Rattle.set_queues.specs.Bodies.{bodies_in, AreAll}
use Rattle.set_queues.specs.Messages.{is_unfinished}
use Rattle.set_queues.specs.Slots.{AreKept, slot_at, number_at}
use Rattle.set_queues.proofs.bodies.keep.Given as goal

abbrev pub invariant-loop-place : goal.invariant-loop-place
invariant-loop-place o l = record {
  kept : AreKept (λ k. is_unfinished (slot_at k l.queues.messages)) (number_at l.place l.numbers.older.items l.numbers.first) l.numbers.older.items l.numbers.first (bodies_in 0 l.ends l.octets) l.older.items (bodies_in 0 l.kept_ends.items l.kept_octets.items);
  all : AreAll 0 l.kept_ends.items l.kept_octets.items;
}
