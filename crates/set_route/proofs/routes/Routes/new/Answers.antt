use Rattle.std.proofs.Common.{List, ap}
use Rattle.set_route.specs.declared.stream.Stream.{Stream}
use Rattle.set_route.specs.Routing.{new_routing}
use Rattle.set_route.proofs.Places.{first_more, new_is, new_kept}
use Rattle.set_route.proofs.routes.Routes.new.Goals as goal

pub loop-number-preserved : goal.loop-number-preserved
loop-number-preserved c = first_more c.args.links c.loop-number.number c.loop-number.stream-items _ c.loop-number.invariant c.loop-number-test.true c.new.ensures

pub invariant_of-result : goal.invariant_of-result
invariant_of-result c = new_kept c.args.links c.loop-number.number c.loop-number.stream-items c.requires.some c.requires.few c.loop-number-test.false c.loop-number.invariant

pub returns : goal.returns
returns c =
    ap (λ (xs : List Stream). record (new_routing c.args.links) { streams = xs }) (new_is c.args.links c.loop-number.number c.loop-number.stream-items c.loop-number-test.false c.loop-number.invariant)
