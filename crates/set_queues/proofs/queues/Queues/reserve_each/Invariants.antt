use Rattle.set_queues.specs.Buffers.{HaveRoom}
use Rattle.set_queues.specs.Queues.{MakesRoom}
use Rattle.set_queues.proofs.queues.Queues.reserve_each.Given as goal

abbrev pub invariant-loop-link : goal.invariant-loop-link
invariant-loop-link o l = record {
  same : MakesRoom l.initial.self l.self;
  room : HaveRoom l.link l.messages l.self.rooms;
}
