use Rattle.std.proofs.Common.{arith, ◌≡◌, ◌+◌, ◌++◌, ℕ, List, get_or, take, drop}
use Rattle.std.proofs.lemmas.Option.{slice_get-get_or}
use Rattle.std.proofs.lemmas.List.{append-nil, append_assoc}
use Rattle.set_queues.specs.Buffers.{queue_at}
use Rattle.set_queues.specs.Queues.{without}
use Rattle.set_queues.proofs.Sifting.{next_there, without_more}
use Rattle.set_queues.proofs.Standing.{queue_set, queue_twice, queued_stands, same_self}
use Rattle.set_queues.proofs.messages.omit.Goals as goal
use Rattle.set_queues.proofs.messages.omit.Goals.{then-first-number, else-first-number}

pub unwrap-first-requires : goal.unwrap-first-requires
unwrap-first-requires o c =
    let q = queue_at c.args.from c.args.buffers.now.lists in
    let i = c.loop.counter in
    let there = slice_get-get_or q i 0 (omega (arith, c.loop-test.true, c.requires.all)) in
    let front = next_there q i (get_or q i 0) there in
    let stood = queued_stands c.args.from c.requires.queued in
    let now = queue_set c.args.from c.args.from (drop i q ++ without c.args.number (take i q)) c.args.buffers.now.lists stood c.requires.known in
    grind (arith, front, now, same_self, stood)

pub loop-preserved : goal.loop-preserved
loop-preserved o c =
    let q = queue_at c.args.from c.args.buffers.now.lists in
    let i = c.loop.counter in
    let there = slice_get-get_or q i 0 (omega (arith, c.loop-test.true, c.requires.all)) in
    let front = next_there q i (get_or q i 0) there in
    let stood = queued_stands c.args.from c.requires.queued in
    let self = same_self c.args.from stood in
    let left : List ℕ = drop (i + 1) q ++ without c.args.number (take i q) in
    let now = queue_set c.args.from c.args.from (drop i q ++ without c.args.number (take i q)) c.args.buffers.now.lists stood c.requires.known in
    let is : c.unwrap-first.result ≡ get_or q i 0 = grind (arith, front, now, self) in
    let more = without_more c.args.number q i (get_or q i 0) there in
    let popped = queue_set c.args.from c.args.from left c.args.buffers.now.lists stood c.requires.known in
    elim c.if-first-number.branch [
      | then-first-number w ↦ record {
        lists = grind (arith, front, now, self, is, more, popped, queue_twice, append_assoc);
        rooms = λ fate. let before = c.loop.invariant.rooms fate in let kept = c.pop.ensures.room fate in let one = w.push.ensures.room fate in grind (arith, before, kept, one);
      }
      | else-first-number w ↦ record {
        lists = grind (arith, front, now, self, is, more, queue_twice, append-nil);
        rooms = λ fate. let before = c.loop.invariant.rooms fate in let kept = c.pop.ensures.room fate in grind (arith, before, kept);
      }
    ]
