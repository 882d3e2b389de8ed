use Rattle.set_route.specs.Routing.{Routing}
use Rattle.set_route.proofs.Places.{answered_sound}
use Rattle.set_route.proofs.routes.Routes.acknowledge.Goals as goal

pub invariant_of-self : goal.invariant_of-self
invariant_of-self c =
    let r : Routing = record { links = c.self.inside.links; streams = c.self.inside.streams; codes = c.self.inside.codes } in
    rw (c.run_home.ensures, c.answered.ensures, c.from-at.ensures) (answered_sound c.args.code r c.self.invariant)
