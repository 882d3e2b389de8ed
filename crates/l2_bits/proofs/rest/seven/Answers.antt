use Rattle.std.proofs.Common.{arith}
use Rattle.l2_bits.proofs.ByteLemmas.{seven_bits}
use Rattle.l2_bits.proofs.rest.seven.Goals as goal

pub returns : goal.returns
returns c =
    seven_bits c.args.a c.args.b c.args.c c.args.d c.args.e c.args.f c.args.g c.from_le_bytes.result
    (omega arith) (omega arith) (omega arith) (omega arith) (omega arith) (omega arith) (omega arith) c.from_le_bytes.ensures
