use Rattle.std.proofs.Common.{arith, ap}
use Rattle.set_route.specs.Routing.{Routing, stream_raised}
use Rattle.set_route.proofs.Places.{sixteen, one_more, raised_kept}
use Rattle.set_route.proofs.routes.Routes.raise.Goals as goal

pub loop-stream-preserved : goal.loop-stream-preserved
loop-stream-preserved c =
    one_more (stream_raised c.args.link) c.self.inside.streams c.loop-stream.stream-items c.loop-stream.stream-index _ _ (omega (arith, c.loop-stream-test.true, sixteen (record { links = c.self.inside.links; streams = c.self.inside.streams; codes = c.self.inside.codes }) c.self.invariant)) c.loop-stream.invariant c.raise.ensures

pub invariant_of-self : goal.invariant_of-self
invariant_of-self c =
    raised_kept c.args.self.now.links c.args.link (record { links = c.self.inside.links; streams = c.self.inside.streams; codes = c.self.inside.codes }) c.loop-stream.stream-items c.loop-stream.stream-index c.self.invariant c.requires (ap (λ (r : Routing). r.links) c.self.view_is) c.loop-stream-test.false c.loop-stream.invariant
