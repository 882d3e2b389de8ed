use Rattle.std.proofs.Common.{◌≡◌, ◌≤◌, ◌+◌, ◌*◌, ◌^◌, drop, if◌then◌else◌, false}
use Rattle.bank_core.specs.Totals.{accepted_in_all, placed_in_all, all_are_legal}
use Rattle.bank_core.proofs.summing.totals.Given as goal

abbrev pub invariant-loop-set : goal.invariant-loop-set
invariant-loop-set l = (accepted_in_all l.sets ≡ l.all.accepted + accepted_in_all (drop l.set-index l.sets))
    × (l.all.accepted ≤ l.set-index * 2 ^ 48)
    × (placed_in_all l.sets ≡ l.all.placed + placed_in_all (drop l.set-index l.sets))
    × (l.all.placed ≤ l.set-index * 2 ^ 48)
    × (all_are_legal l.sets ≡ (if l.all.legal then all_are_legal (drop l.set-index l.sets) else false))
