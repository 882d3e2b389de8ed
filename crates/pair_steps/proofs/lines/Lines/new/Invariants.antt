use Rattle.std.proofs.Common.{◌≡◌}
use Rattle.pair_steps.specs.Lines.{no_units}
use Rattle.pair_steps.proofs.lines.Lines.new.Given as goal

abbrev pub invariant-loop : goal.invariant-loop
invariant-loop o l = l.lines.items ≡ no_units l.counter
