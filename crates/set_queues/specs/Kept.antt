-- What the queues that are kept stand for.
use Rattle.std.specs.Prelude.{map}
use Rattle.set_queues.specs.declared.buffers.Link.{Link}
use Rattle.set_queues.specs.declared.buffers.Buffers.TheInside.{Inside}
use Rattle.set_queues.specs.Buffers.{LinkLists, LinkRooms, BuffersState}

abbrev pub lists_of : {A : Type 0} → Link A → LinkLists
lists_of link = record {
  profile = link.window.profile;
  last = link.window.last;
  unacked = link.window.unacked;
  unsent = link.window.unsent;
  held = link.held.messages;
}

abbrev pub rooms_of : {A : Type 0} → Link A → LinkRooms
rooms_of link = record { unsent = link.window.room; held = link.held.room }

abbrev pub state_of : {A : Type 0} → Inside A → BuffersState
state_of fields = record {
  lists = record {
    links = map lists_of fields.links.items;
    parked = fields.parked.messages;
    back = map (λ queue. queue.messages) fields.back.items;
  };
  rooms = record {
    links = map rooms_of fields.links.items;
    parked = fields.parked.room;
    back = map (λ queue. queue.room) fields.back.items;
  };
}
