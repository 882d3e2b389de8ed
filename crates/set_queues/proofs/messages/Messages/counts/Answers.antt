use Rattle.std.proofs.Common.{arith, rules, ◌<◌, ◌+◌, ◌^◌, length, slice_index}
use Rattle.set_queues.specs.declared.messages.Messages.TheInside.{Inside as Messages}
use Rattle.set_queues.specs.Messages.{IsTally, is_there, was_discarded}
use Rattle.set_queues.specs.Slots.{AreSlots}
use Rattle.set_queues.specs.Stored.{seen_in}
use Rattle.set_queues.proofs.Forgetting.{seen_few}
use Rattle.set_queues.specs.Buffers.{Waiting, Unacked, Acked, Held, Parked, Back, Discarded, Emergency, Unreasonable, NoAnswer}
use Rattle.set_queues.proofs.Tallies.{by_cause, count_few}
use Rattle.set_queues.proofs.messages.Messages.counts.Goals as goal

-- they are no more than all
few : {A : Type 0} (m : Messages A) → AreSlots m.numbers.older.items m.numbers.first (length m.all.items) → IsTally m.tally (seen_in m.period m.numbers.older.items m.numbers.first m.all.items) → slice_index m.tally.counts 6 + slice_index m.tally.counts 7 + slice_index m.tally.counts 8 < 2 ^ 63
few m slots tally =
    let all = seen_in m.period m.numbers.older.items m.numbers.first m.all.items in
    omega (arith, tally.counts (Discarded Emergency), tally.counts (Discarded Unreasonable), tally.counts (Discarded NoAnswer), by_cause all, count_few (is_there was_discarded) all, seen_few m.period m.numbers.older.items m.numbers.first m.all.items slots)

pub overflow_add-result : goal.overflow_add-result
overflow_add-result o c = let least = few c.self.inside c.self.invariant.0 c.self.invariant.1 in omega (arith, least)

pub overflow_add-result-2 : goal.overflow_add-result-2
overflow_add-result-2 o c = let least = few c.self.inside c.self.invariant.0 c.self.invariant.1 in omega (arith, least)

pub returns : goal.returns
returns o c =
    let counts = c.self.invariant.1.counts in
    rw (← c.self.view_is, by_cause, ← counts (Discarded Emergency), ← counts (Discarded Unreasonable), ← counts (Discarded NoAnswer)) (search (rules, counts (Waiting 0), counts (Unacked 0), counts (Acked 0), counts (Held 0), counts Parked, counts (Back 0)))
