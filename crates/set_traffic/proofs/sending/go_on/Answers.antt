use Rattle.std.proofs.Common.{refl, arith, ◌≡◌, ◌∙◌, ap, slice_get, slice_set, Some}
use Rattle.set_model.specs.Control.{control_after}
use Rattle.set_model.specs.Rows.{octets_in, unack}
use Rattle.set_model.specs.State.{State, LinkState, window_of}
use Rattle.set_changeover.specs.Agreement.{StandsFor}
use Rattle.set_changeover.specs.Parts.{kept_of}
use Rattle.set_changeover.proofs.States.{becomes, link_for}
use Rattle.set_changeover.proofs.Links.{link_set}
use Rattle.set_traffic.proofs.Traffic.{weight_is, told}
use Rattle.set_traffic.proofs.sending.go_on.Given.{Over}
use Rattle.set_traffic.proofs.sending.go_on.Goals as goal
use Rattle.set_traffic.proofs.sending.go_on.Goals.{After-send-head}

module _ (o : Over) (c : After-send-head o) (s : State) (link : LinkState) (there : slice_get s.links c.args.number ≡ Some link) (f : StandsFor (kept_of c.args.parts.now) s) where
  tells : (c.behind-parts.inside.control ≡ link.control) × (c.window-window.result.now ≡ record (window_of c.args.number link s.rows) { room = c.window-window.result.now.room })
  tells = told c.args.parts.now s c.args.number c.from.result c.index_mut.result.now _ c.window-window.result.now link c.from.ensures c.requires.known c.index_mut.ensures.value (ap (λ (l : LinkState). l.control) c.behind-parts.view_is) c.window-window.ensures.last c.window-window.ensures.profile c.window-window.ensures.unacked c.window-window.ensures.unsent there f

  weighs : c.octets-octets.result ≡ octets_in (unack c.args.number s.rows)
  weighs = c.octets-octets.ensures ∙ weight_is (kept_of c.args.parts.now) s f c.args.number

pub returns-clause-chosen : goal.returns-clause-chosen
returns-clause-chosen o c = λ s link there f.
    let so = (goal.at.returns-clause-chosen o c).After-send-head in
    let same = tells o so s link there f in
    c.choice-choice.ensures.value ∙ rw (same.1, same.0, weighs o so s link there f) (grind arith)

pub returns-clause-stands : goal.returns-clause-stands
returns-clause-stands o c = λ s link there f.
    let n = c.args.number in
    let so = (goal.at.returns-clause-stands o c).After-send-head in
    let same = tells o so s link there f in
    let link' = record link { control = control_after c.choice-choice.result (octets_in (unack n s.rows)) link.control (window_of n link s.rows) } in
    let after : c.send-head.new.self ≡ link'.control = c.send-head.ensures.state ∙ rw (same.1, same.0, weighs o so s link there f) (grind arith) in
    let links = link_set c.args.parts.now.links.items n c.from.result c.index_mut.result.now c.from.ensures c.requires.known c.index_mut.ensures.value (λ l. record l { control = c.send-head.new.self }) _ s.links link c.behind-parts.view_is f.links there ∙ ap (λ control. slice_set s.links n (record link { control = control })) after in
    becomes (link_for (kept_of c.args.parts.now) s n link link' s.routing f there refl refl) (search (links, f.routing))

pub returns-clause-head : goal.returns-clause-head
returns-clause-head o c = λ s link there f. let same = tells o (goal.at.returns-clause-head o c).After-send-head s link there f in c.send-head.ensures.head ∙ rw (same.1, same.0) (grind arith)
