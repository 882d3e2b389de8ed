use Rattle.std.proofs.Common.{◌∙◌, List, ap}
use Rattle.set_route.specs.declared.stream.Stream.{Stream}
use Rattle.set_route.specs.Routing.{accepted}
use Rattle.set_route.proofs.Places.{accepted_is, accepted_kept}
use Rattle.set_route.proofs.routes.Routes.accept.Goals as goal

pub invariant_of-self : goal.invariant_of-self
invariant_of-self c = accepted_kept c.args.stream c.from.result (record { links = c.self.inside.links; streams = c.self.inside.streams; codes = c.self.inside.codes }) _ c.self.invariant c.from.ensures c.requires

pub returns : goal.returns
returns c =
    ap (λ (xs : List Stream). record { links = c.self.inside.links; streams = xs; codes = c.self.inside.codes }) (accepted_is c.args.stream c.from.result (record { links = c.self.inside.links; streams = c.self.inside.streams; codes = c.self.inside.codes }) _ c.self.invariant c.from.ensures c.requires)
    ∙ ap (accepted c.args.stream) c.self.view_is
