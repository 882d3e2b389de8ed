use Rattle.std.proofs.Common.{refl}
use Rattle.text_units.proofs.BitLemmas.{yes_is_1, no_is_0}
use Rattle.text_units.proofs.unit_lines.fib_words.Goals as goal

pub returns-then-fib : goal.returns-then-fib
returns-then-fib c = rw (yes_is_1 c.args.fib c.if-fib.true) refl

pub returns-else-fib : goal.returns-else-fib
returns-else-fib c = rw (no_is_0 c.args.fib c.if-fib.false) refl
