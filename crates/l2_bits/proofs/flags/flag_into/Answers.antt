use Rattle.std.proofs.Common.{◌∙◌, ◌++◌, Bool, List, ap}
use Rattle.l2_bits.proofs.LeavingLemmas.{flag_bits}
use Rattle.l2_bits.proofs.flags.flag_into.Goals as goal

pub returns-clause-text : goal.returns-clause-text
returns-clause-text c = c.unpack.ensures.bits ∙ ap (λ (bits : List Bool). c.args.line.now.items ++ bits) flag_bits
