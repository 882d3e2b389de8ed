use Rattle.std.proofs.Common.{◌≡◌, ◌+◌, ◌/◌, bit_or, arith}
use Rattle.l2_bits.proofs.OctetLemmas.{shifted_one, shifted_zero, or_top}
use Rattle.l2_bits.proofs.shift.shifted_in.Goals as goal

pub returns-then-bit : goal.returns-then-bit
returns-then-bit c =
    let sum : bit_or (c.args.register / 2) 128 ≡ c.args.register / 2 + 128 =
    or_top (c.args.register / 2) (omega arith) in
    rw (sum, c.if-bit.true) (shifted_one c.args.register (omega arith))

pub returns-else-bit : goal.returns-else-bit
returns-else-bit c = rw c.if-bit.false (shifted_zero c.args.register (omega arith))
