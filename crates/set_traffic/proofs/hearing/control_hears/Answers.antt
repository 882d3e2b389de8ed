use Rattle.std.proofs.Common.{refl, arith, ◌≡◌, ◌∙◌, ◌+◌, ap, sym, subst, List, ◌^◌, Some, slice_get, slice_set, ℕ}
use Rattle.l2_units.specs.Grammar.{head_of}
use Rattle.l2_units.specs.Lent.{unit_in}
use Rattle.set_model.specs.Control.{Control, control_heard}
use Rattle.set_model.specs.Step.{is_msu, one_if, after_control}
use Rattle.set_model.specs.State.{open_link, LinkState, State, window_of}
use Rattle.set_changeover.specs.declared.link.Link.{Link}
use Rattle.set_changeover.specs.Agreement.{StandsFor}
use Rattle.set_changeover.specs.Parts.{kept_of, IsCounted}
use Rattle.set_traffic.proofs.Traffic.{told}
use Rattle.set_changeover.proofs.Links.{found, link_set, set_view, counted_set, wider}
use Rattle.set_traffic.proofs.hearing.control_hears.Given.{Over}
use Rattle.set_traffic.proofs.hearing.control_hears.Goals as goal
use Rattle.set_traffic.proofs.hearing.control_hears.Goals.{After-hear-part}

tells : (o : Over) (c : After-hear-part o) (s : State) (link : LinkState) → slice_get s.links c.args.number ≡ Some link → StandsFor (kept_of c.args.parts.now) s → (c.link.inside.control ≡ link.control) × (c.window-window.result.now ≡ record (window_of c.args.number link s.rows) { room = c.window-window.result.now.room })
tells o c s link there f = told c.args.parts.now s c.args.number c.from.result c.index_mut-link.result.now _ c.window-window.result.now link c.from.ensures c.requires.known c.index_mut-link.ensures.value (ap (λ (l : Link). l.control) c.link.view_is) c.window-window.ensures.last c.window-window.ensures.profile c.window-window.ensures.unacked c.window-window.ensures.unsent there f

-- the link as it was, and as it counts
abbrev was : (o : Over) (c : After-hear-part o) → Link
was o c = record { phase = c.link.inside.phase; tested = c.link.inside.tested; profile = c.link.inside.profile; blind = c.link.inside.blind; answered = c.link.inside.answered; acked = c.link.inside.acked; accepted = c.link.inside.accepted; control = c.link.inside.control; late = c.link.inside.late; order = c.link.inside.order }

abbrev counted : ℕ → ℕ → Control → Link → Link
counted acked accepted control link = record link { acked = link.acked + acked; accepted = link.accepted + accepted; control = control }

few : (o : Over) (c : After-hear-part o) → IsCounted (2 ^ 60) (was o c)
few o c = rw c.link.view_is (c.requires.counted c.args.number _ (found c.args.parts.now.links.items c.args.number c.from.result c.index_mut-link.result.now c.from.ensures c.requires.known c.index_mut-link.ensures.value))

pub overflow_add-link : goal.overflow_add-link
overflow_add-link o c = let k = (few o (goal.at.overflow_add-link o c).After-hear-part).acked in omega (arith, k, c.from-2.ensures)

pub overflow_add-link-2 : goal.overflow_add-link-2
overflow_add-link-2 o c = let k = (few o (goal.at.overflow_add-link-2 o c).After-hear-part).accepted in grind (arith, k, c.from-3.ensures)

pub returns-clause-part : goal.returns-clause-part
returns-clause-part o c = λ s link there f.
    let same = tells o (goal.at.returns-clause-part o c).After-hear-part s link there f in
    rw (← c.head-head.ensures, ← c.has_message.ensures) (c.hear-part.ensures.part ∙ rw (same.1, same.0) (grind arith))

pub returns-clause-stands : goal.returns-clause-stands
returns-clause-stands o c = λ s link there f.
    let n = c.args.number in
    let part = c.hear-part.result in
    let so = (goal.at.returns-clause-stands o c).After-hear-part in
    let told = tells o so s link there f in
    let heard = record link { acked = link.acked + part.acked; accepted = link.accepted + one_if part.accept; control = control_heard link.control (window_of n link s.rows) (head_of (unit_in c.args.unit.now)) (is_msu (unit_in c.args.unit.now)) } in
    let links = link_set c.args.parts.now.links.items n c.from.result c.index_mut-link.result.now c.from.ensures c.requires.known c.index_mut-link.ensures.value (counted c.from-2.result c.from-3.result c.hear-part.new.self) _ s.links link c.link.view_is f.links there
    ∙ ap (slice_set s.links n) (rw (c.hear-part.ensures.state, told.1, told.0, c.head-head.ensures, c.has_message.ensures, c.from-2.ensures, c.from-3.ensures) (grind arith)) in
    subst (λ (ls : List LinkState). StandsFor (record (kept_of c.args.parts.now) { lists = c.acknowledge.new.queues.lists; messages = c.acknowledge.new.queues.messages; links = ls }) (after_control part (head_of (unit_in c.args.unit.now)) (unit_in c.args.unit.now) n s link)) (sym links)
    (c.acknowledge.ensures.stands (kept_of c.args.parts.now) s link heard there refl refl f)

pub returns-clause-counted : goal.returns-clause-counted
returns-clause-counted o c =
    let so = (goal.at.returns-clause-counted o c).After-hear-part in
    let k = few o so in
    let new = counted c.from-2.result c.from-3.result c.hear-part.new.self (was o so) in
    counted_set 2305843009213693952 c.args.parts.now.links.items _ c.args.number new (wider 1152921504606846976 2305843009213693952 c.args.parts.now.links.items (omega arith) c.requires.counted) (ap (λ k. slice_set c.args.parts.now.links.items k new) c.from.ensures) (grind (arith, k.acked, k.accepted, c.from-2.ensures, c.from-3.ensures))

pub returns-clause-keeps : goal.returns-clause-keeps
returns-clause-keeps o c = record {
  queues = c.acknowledge.ensures.keeps;
  bodies = refl;
  opens = set_view c.args.parts.now.links.items c.args.number c.from.result c.index_mut-link.result.now c.from.ensures c.requires.known c.index_mut-link.ensures.value (λ l. open_link l) _ (ap (λ (l : Link). open_link l) c.link.view_is);
  inbox = refl;
  config = refl;
}
