use Rattle.set_queues.specs.Slots.{AreKept, item_at, number_at}
use Rattle.set_queues.specs.Stored.{AreStanding, stays_on}
use Rattle.set_queues.proofs.messages.keep.Given as goal

abbrev pub invariant-loop-place : goal.invariant-loop-place
invariant-loop-place o l = record {
  kept : AreKept (λ k. stays_on (item_at k l.numbers.older.items l.numbers.first l.all)) (number_at l.place l.numbers.older.items l.numbers.first) l.numbers.older.items l.numbers.first l.all l.older.items l.kept.items;
  standing : AreStanding l.kept.items;
}
