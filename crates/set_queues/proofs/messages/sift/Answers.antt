use Rattle.std.proofs.Common.{arith, ◌≡◌, ◌<◌, ◌+◌, ◌++◌, length, get_or, Some, take, drop, slice_get}
use Rattle.std.proofs.lemmas.Option.{slice_get-get_or}
use Rattle.std.proofs.lemmas.List.{append-nil, append_assoc}
use Rattle.set_queues.specs.Queues.{orders_in, others_in}
use Rattle.set_queues.proofs.Sifting.{kind_stays, next_there, orders_more, others_more}
use Rattle.set_queues.proofs.Standing.{restood-append}
use Rattle.set_queues.proofs.messages.sift.Goals as goal
use Rattle.set_queues.proofs.messages.sift.Goals.{then-is_order, else-is_order}

pub loop-preserved : goal.loop-preserved
loop-preserved g c =
    let q = c.args.window.now.unsent in
    let ms = c.args.messages.now.items in
    let i = c.loop.counter in
    let within : i < length q = omega (arith, c.loop-test.true, c.unsent_len-end.ensures) in
    let there : slice_get q i ≡ Some (get_or q i 0) = slice_get-get_or q i 0 within in
    let front = next_there q i (get_or q i 0) there in
    let is : c.unwrap-number.result ≡ get_or q i 0 = grind (arith, front) in
    let rest : c.withdraw.new.self.unsent ≡ drop (i + 1) q ++ others_in ms (take i q) = grind (arith, front) in
    let kind = kind_stays (orders_in ms (take i q)) (get_or q i 0) c.args.gone ms in
    let orders = orders_more ms q i (get_or q i 0) there in
    let others = others_more ms q i (get_or q i 0) there in
    elim c.if-is_order.branch [
      | then-is_order w ↦ record {
        unsent = grind (arith, rest, others, kind, is, append-nil);
        same = grind arith;
        messages = grind (arith, orders, kind, is, restood-append);
        room = grind arith;
      }
      | else-is_order w ↦ record {
        unsent = grind (arith, rest, others, kind, is, append_assoc);
        same = grind arith;
        messages = grind (arith, orders, kind, is, append-nil);
        room = grind arith;
      }
    ]
