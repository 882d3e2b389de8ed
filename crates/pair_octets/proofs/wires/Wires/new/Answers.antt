use Rattle.std.proofs.Common.{arith}
use Rattle.std.proofs.lemmas.Grind.{common_steps}
use Rattle.pair_octets.proofs.Seen.{joined_so}
use Rattle.pair_octets.proofs.wires.Wires.new.Goals as goal

pub invariant_of-result : goal.invariant_of-result
invariant_of-result c =
    joined_so c.args.a.now c.args.b.now c.args.lengths.now _ _ _ _
    (record {
      links = grind (arith, common_steps, c.if-a-b.false);
      lines = grind (arith, common_steps, c.if-lengths-from.false, c.from.ensures);
    })
    c.in-Ok.ensures.ok c.in-Ok-new.ensures.ok c.in_ok-to_a.ensures c.in_ok-to_b.ensures
