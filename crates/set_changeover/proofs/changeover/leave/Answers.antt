use Rattle.std.proofs.Common.{◌≡◌, length, refl, slice_set, slice_get, Some, ap, ◌∙◌}
use Rattle.set_model.specs.Changeover.{out_of_service, left_link}
use Rattle.set_route.specs.Routing.{left as streams_left}
use Rattle.set_model.proofs.Lists.{present}
use Rattle.set_changeover.specs.Agreement.{StandsFor, Agrees}
use Rattle.set_changeover.specs.Parts.{Link, kept_of}
use Rattle.set_changeover.proofs.Links.{link_set}
use Rattle.set_model.specs.State.{State}
use Rattle.set_changeover.proofs.States.{link_for}
use Rattle.set_changeover.proofs.Turns.{turning_of}
use Rattle.set_changeover.specs.Turning.{IsTurning}
use Rattle.set_changeover.proofs.changeover.leave.Given.{Over}
use Rattle.set_changeover.proofs.changeover.leave.Goals as goal
use Rattle.set_changeover.proofs.changeover.leave.Goals.{After-divert}

-- the link is out of service, streams on their way back to it run where they came from, and what stood back can turn
out : (o : Over) (c : After-divert o) (y : Link) → y ≡ c.index_mut-link.result.now → (s : State) (link : Link) → slice_get s.links c.args.number ≡ Some link → Agrees (kept_of c.args.parts.now) s
    → StandsFor (record (kept_of c.args.parts.now) { links = slice_set c.args.parts.now.links.items c.from.result (left_link c.args.blind c.len-order.result y); routing = c.divert.new.self }) (out_of_service c.args.blind c.args.number link s)
    × IsTurning c.args.number (out_of_service c.args.blind c.args.number link s)
out o c y same s link there a =
    let n = c.args.number in (
      rw (c.len-order.ensures.value, ← a.stands.given_out, link_set c.args.parts.now.links.items n c.from.result c.index_mut-link.result.now c.from.ensures c.requires.known c.index_mut-link.ensures.value (left_link c.args.blind (length c.args.parts.now.queues.messages)) y s.links link same a.stands.links there, c.divert.ensures, a.stands.routing) (link_for (kept_of c.args.parts.now) s n link (left_link c.args.blind (length c.args.parts.now.queues.messages) link) (streams_left n s.routing) a.stands there refl refl),
      turning_of c.args.blind n link s (record { there = there; phase_is = c.requires.up link (ap (λ links. slice_get links n) a.stands.links ∙ there) }) a.sound,
    )

pub turn_back-requires-clause-turning : goal.turn_back-requires-clause-turning
turn_back-requires-clause-turning o c =
    let a = c.requires.holds.1 in
    let x = present c.requires.holds.0.links c.args.number (rw a.stands.links at c.requires.known) in
    let left = out o (goal.at.turn_back-requires-clause-turning o c).After-divert _ c.link.view_is c.requires.holds.0 x.0 x.1 a in
    (_, left.0, left.1)

pub returns-clause-stands : goal.returns-clause-stands
returns-clause-stands o c = λ s link there a. let left = out o (goal.at.returns-clause-stands o c).After-divert _ c.link.view_is s link there a in c.turn_back.ensures.stands _ left.0 left.1
