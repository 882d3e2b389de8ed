use Rattle.std.proofs.Common.{◌++◌, arith}
use Rattle.std.proofs.lemmas.Grind.{flat_map-append}
use Rattle.l2_bits.specs.LineBits.{bits_of, line_bits}
use Rattle.l2_bits.proofs.DivisionLemmas.{DividesTo-append, check_bits_of_register}
use Rattle.l2_bits.proofs.check.check_of_both.Goals as goal

pub returns : goal.returns
returns c =
    let front = c.args.front.now in
    let rest = c.args.rest.now in
    rw (flat_map-append (bits_of 8) front rest)
    (check_bits_of_register (line_bits front ++ line_bits rest) c.after_all-2.result (omega arith)
    (DividesTo-append _ _ _ (line_bits front) (line_bits rest) c.after_all.ensures c.after_all-2.ensures))
