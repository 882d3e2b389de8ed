use Rattle.std.proofs.Common.{arith, set, ap, ◌∙◌, ◌≡◌, ℕ}
use Rattle.set_route.specs.declared.place.Code.TheVariants.{Asked}
use Rattle.set_route.specs.Routing.{Routing, stream_asked, code_for}
use Rattle.set_route.proofs.Places.{sixteen, one_more, changed_kept, asked_sound}
use Rattle.set_route.proofs.routes.Routes.ask.Goals as goal

pub loop-stream-preserved : goal.loop-stream-preserved
loop-stream-preserved c =
    one_more (stream_asked c.args.home c.args.alternative) c.self.inside.streams c.loop-stream.stream-items c.loop-stream.stream-index _ _ (omega (arith, c.loop-stream-test.true, sixteen (record { links = c.self.inside.links; streams = c.self.inside.streams; codes = c.self.inside.codes }) c.self.invariant)) c.loop-stream.invariant c.ask.ensures

pub invariant_of-self : goal.invariant_of-self
invariant_of-self c =
    let r : Routing = record { links = c.self.inside.links; streams = c.self.inside.streams; codes = c.self.inside.codes } in
    let same : r.links ≡ c.args.self.now.links = ap (λ (x : Routing). x.links) c.self.view_is in
    let code : ℕ = code_for c.args.home c.args.alternative in
    changed_kept (stream_asked c.args.home c.args.alternative) (set r.codes code (Asked c.args.alternative c.args.declaration 1)) r c.loop-stream.stream-items _ c.loop-stream.stream-index c.self.invariant (asked_sound c.args.home c.args.alternative c.args.declaration r (omega (arith, same, c.requires.home)) (omega (arith, same, c.requires.alternative)) (grind (arith, c.can_ask.ensures, c.if-not-can_ask.false, c.self.view_is)) c.self.invariant) c.loop-stream-test.false c.loop-stream.invariant (ap (λ n. set r.codes n (Asked c.args.alternative c.args.declaration 1)) (c.from.ensures ∙ c.changeback_code.ensures))
