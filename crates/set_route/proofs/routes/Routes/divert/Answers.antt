use Rattle.std.proofs.Common.{arith}
use Rattle.set_route.specs.Routing.{Routing, stream_left, codes_left}
use Rattle.set_route.proofs.Places.{sixteen, one_more, changed_kept, left_sound}
use Rattle.set_route.proofs.routes.Routes.divert.Goals as goal

pub loop-stream-preserved : goal.loop-stream-preserved
loop-stream-preserved c =
    one_more (stream_left c.args.link) c.self.inside.streams c.loop-stream.stream-items c.loop-stream.stream-index _ _ (omega (arith, c.loop-stream-test.true, sixteen (record { links = c.self.inside.links; streams = c.self.inside.streams; codes = c.self.inside.codes }) c.self.invariant)) c.loop-stream.invariant c.leave.ensures

pub invariant_of-self : goal.invariant_of-self
invariant_of-self c =
    let r : Routing = record { links = c.self.inside.links; streams = c.self.inside.streams; codes = c.self.inside.codes } in
    changed_kept (stream_left c.args.link) (codes_left c.args.link 0 r.codes) r c.loop-stream.stream-items _ c.loop-stream.stream-index c.self.invariant (left_sound c.args.link r c.self.invariant) c.loop-stream-test.false c.loop-stream.invariant c.leave_codes.ensures
