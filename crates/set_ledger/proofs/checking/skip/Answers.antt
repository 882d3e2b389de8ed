use Rattle.std.proofs.Common.{◌∙◌}
use Rattle.set_ledger.proofs.Receipts.{next_past}
use Rattle.set_ledger.proofs.checking.skip.Goals as goal

pub loop-entry-preserved : goal.loop-entry-preserved
loop-entry-preserved c = next_past c.next.result c.loop-entry._entry c.args.entries.now c.loop-entry.entries c.next.new.self c.next.ensures (λ none. c.if-len-eq0.false (c.len.ensures ∙ none)) c.loop-entry.invariant
