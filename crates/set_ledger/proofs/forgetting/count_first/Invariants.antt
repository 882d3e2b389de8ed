use Rattle.std.proofs.Common.{◌≡◌, drop}
use Rattle.set_ledger.specs.Seats.{with_entries}
use Rattle.set_ledger.proofs.forgetting.count_first.Given as goal

abbrev pub invariant-loop-entry : goal.invariant-loop-entry
invariant-loop-entry l = (l.entries ≡ drop l._entry l.fn.entries) × (with_entries l.sum l.entries ≡ with_entries l.fn.before l.fn.entries)
