use Rattle.std.proofs.Common.{◌∙◌}
use Rattle.set_ledger.proofs.Counting.{counted_on}
use Rattle.set_ledger.proofs.Receipts.{next_past}
use Rattle.set_ledger.proofs.forgetting.count_first.Goals as goal

-- src/forgetting.rt
pub loop-entry-preserved : goal.loop-entry-preserved
loop-entry-preserved c = (
  next_past c.next.result c.loop-entry._entry c.args.entries.now c.loop-entry.entries c.next.new.self c.next.ensures (λ none. c.if-len-eq0.false (c.len.ensures ∙ none)) c.loop-entry.invariant.0,
  counted_on c.args.before c.loop-entry.sum c.count-sum.result c.args.entries.now c.loop-entry.entries c.next.new.self c.in-Some.told c.loop-entry.invariant.1 c.in-Some.ensures c.count-sum.ensures,
)
