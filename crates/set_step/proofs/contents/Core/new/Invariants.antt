use Rattle.std.proofs.Common.{◌≡◌, replicate}
use Rattle.set_model.specs.State.{new_link}
use Rattle.set_step.proofs.contents.Core.new.Given as goal

abbrev pub invariant-loop : goal.invariant-loop
invariant-loop o l = l.links.items ≡ replicate l.counter (new_link l.config.profile l.config.method)
