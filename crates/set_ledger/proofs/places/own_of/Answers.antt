use Rattle.std.proofs.Common.{arith, ap, ◌≤◌, ◌-◌, length}
use Rattle.set_ledger.specs.declared.share.Forgotten.{Forgotten}
use Rattle.set_ledger.proofs.Placing.{own_decides}
use Rattle.set_ledger.proofs.places.own_of.Goals as goal

pub returns : goal.returns
returns g c =
    let there : c.count_calls-calls.result - c.forgotten-forgotten.result.calls ≤ length c.receipts-receipts.result = omega (arith, c.if-before-len.false, c.len.ensures) in
    own_decides c.args.books.now (g.S.Step.state c.args.seat.now) c.actor-who.result c.forgotten-forgotten.result.calls c.count_calls-calls.result c.receipts-receipts.result c.skip.new.entries
    c.actor-who.ensures (ap (λ (f : Forgotten). f.calls) c.forgotten-forgotten.ensures) c.receipts-receipts.ensures c.count_calls-calls.ensures
    c.if-calls-forgotten.false there c.skip.ensures
