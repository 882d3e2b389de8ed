use Rattle.std.proofs.Common.{◌≡◌, take}
use Rattle.set_step.proofs.forgetting.links_copied.Given as goal

abbrev pub invariant-loop-link : goal.invariant-loop-link
invariant-loop-link o l = l.copy.items ≡ take l.link-index l.links
