use Rattle.std.proofs.Common.{refl}
use Rattle.text_units.proofs.BitLemmas.{yes_is_1, no_is_0}
use Rattle.text_units.proofs.fill_in_line.fib_end.Goals as goal

pub returns-then-fib-clause-value : goal.returns-then-fib-clause-value
returns-then-fib-clause-value c = rw (yes_is_1 c.args.fib c.if-fib.true) refl

pub returns-else-fib-clause-value : goal.returns-else-fib-clause-value
returns-else-fib-clause-value c = rw (no_is_0 c.args.fib c.if-fib.false) refl
