-- What contracts see of one end of a line over two rings, and of both ends.
use Rattle.std.specs.Prelude.{ℕ, List}
use Rattle.rtrb.specs.Ring.{sent, received, known_free, known_items, producer_capacity, IsPair, SameProducer, SameConsumer}
use Rattle.line_ring.specs.declared.ring.RingLine.{RingLine}

-- each octet that the end put, oldest first
abbrev pub put_of : {A : Type 0} → RingLine A → List ℕ
put_of end = sent end.out

-- each octet that it took, oldest first
abbrev pub taken_of : {A : Type 0} → RingLine A → List ℕ
taken_of end = received end.back

-- how many places it knows to be free
abbrev pub free_of : {A : Type 0} → RingLine A → ℕ
free_of end = known_free end.out

-- the octets that it has seen and not taken, oldest first
abbrev pub waiting_of : {A : Type 0} → RingLine A → List ℕ
waiting_of end = known_items end.back

-- how many places its octets have
abbrev pub capacity_of : {A : Type 0} → RingLine A → ℕ
capacity_of end = producer_capacity end.out

-- the second is the same end of the same line as the first
abbrev pub IsSameEnd : {A : Type 0} → RingLine A → RingLine A → Type 0
IsSameEnd first second = SameProducer first.out second.out × SameConsumer first.back second.back

-- the two ends of one line: what goes out of either comes in at the other
abbrev pub AreJoined : {A : Type 0} → RingLine A → RingLine A → Type 0
AreJoined near far = IsPair near.out far.back × IsPair far.out near.back
