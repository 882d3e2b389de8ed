use Rattle.std.proofs.Common.{arith, ap, map, subst, sym, ℕ, ◌<◌, IfSome}
use Rattle.set_route.specs.Routing.{Routing, code_settled, stream_settled}
use Rattle.set_route.proofs.Places.{sixteen, one_more, changed_kept, settled_sound}
use Rattle.set_route.proofs.routes.Routes.settle.Goals as goal

pub loop-stream-preserved : goal.loop-stream-preserved
loop-stream-preserved c =
    one_more (stream_settled c.args.link c.args.target) c.self.inside.streams c.loop-stream.stream-items c.loop-stream.stream-index _ _ (omega (arith, c.loop-stream-test.true, sixteen (record { links = c.self.inside.links; streams = c.self.inside.streams; codes = c.self.inside.codes }) c.self.invariant)) c.loop-stream.invariant c.settle.ensures

pub invariant_of-self : goal.invariant_of-self
invariant_of-self c =
    let r : Routing = record { links = c.self.inside.links; streams = c.self.inside.streams; codes = c.self.inside.codes } in
    let below = subst (λ (n : ℕ). IfSome c.args.target (λ to. to < n)) (sym (ap (λ (x : Routing). x.links) c.self.view_is)) c.requires.target in
    changed_kept (stream_settled c.args.link c.args.target) (map (code_settled c.args.link c.args.target) r.codes) r c.loop-stream.stream-items _ c.loop-stream.stream-index c.self.invariant (settled_sound c.args.link c.args.target r below c.self.invariant) c.loop-stream-test.false c.loop-stream.invariant c.settle_codes.ensures
