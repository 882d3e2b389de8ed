use Rattle.std.proofs.Common.{◌≡◌, take}
use Rattle.set_step.proofs.forgetting.inbox_copied.Given as goal

abbrev pub invariant-loop-place : goal.invariant-loop-place
invariant-loop-place o l = l.copy.items ≡ take l.place l.inbox.items
