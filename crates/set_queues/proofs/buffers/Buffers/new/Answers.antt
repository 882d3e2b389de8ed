use Rattle.std.proofs.Common.{arith, refl, ◌≡◌}
use Rattle.set_queues.proofs.buffers.Buffers.new.Goals as goal

pub returns : goal.returns
returns o c =
    let links : c.loop.counter ≡ c.args.links = grind arith in
    let codes : c.loop-2.counter ≡ 256 = grind arith in
    rw (c.loop.invariant, c.loop-2.invariant, links, codes, c.in_ok-new.ensures) refl
