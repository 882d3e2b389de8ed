use Rattle.std.proofs.Common.{◌≡◌, drop}
use Rattle.set_ledger.proofs.checking.skip.Given as goal

abbrev pub invariant-loop-entry : goal.invariant-loop-entry
invariant-loop-entry l = l.entries ≡ drop l._entry l.initial.entries
