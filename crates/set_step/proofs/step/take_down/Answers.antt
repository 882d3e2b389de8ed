use Rattle.std.proofs.Common.{refl, arith, ◌≡◌, ◌∙◌, ◌<◌, ap, sym, subst}
use Rattle.set_model.specs.Changeover.{Coo, leaving_order, left_by, queued}
use Rattle.set_model.specs.State.{LinkState, Profile, Settings, last_accepted}
use Rattle.l2_units.specs.Profile.{fsn_count}
use Rattle.set_model.specs.Step.{falls}
use Rattle.set_changeover.specs.Agreement.{StandsFor}
use Rattle.set_changeover.specs.Parts.{Up, kept_of}
use Rattle.set_changeover.proofs.Links.{agrees_same, is_in, served, found, stands_for, whole_of, has_room_left, beside_left}
use Rattle.set_step.proofs.step.take_down.Goals as goal
use Rattle.set_step.proofs.step.take_down.Goals.{then-blind, else-blind}

pub last_accepted-requires : goal.last_accepted-requires
last_accepted-requires o c = let few = (c.requires.counted c.args.number _ (found c.args.parts.now.links.items c.args.number c.from.result c.index.result.now c.from.ensures c.in_default.ensures.here.known c.index.ensures)).accepted in omega (arith, few)

pub queue-requires-clause-room : goal.queue-requires-clause-room
queue-requires-clause-room o c =
    let roomy = c.make_room_beside.new.parts in
    let here = c.in_default.ensures.here in
    let left = c.leave.ensures.links here.link (rw c.in_ok-make_room_beside.ensures.same.links here.there) in
    has_room_left c.args.number roomy c.leave.new.parts c.in_ok-make_room_beside.ensures.room c.leave.ensures.turns c.leave.ensures.bodies (beside_left roomy.links.items c.leave.new.parts.links.items c.args.number _ left refl)

pub queue-requires-clause-order : goal.queue-requires-clause-order
queue-requires-clause-order o c =
    let n = c.args.number in
    let here = c.in_default.ensures.here in
    let s = c.requires.holds.0 in
    let a = c.requires.holds.1 in
    let i = is_in c.args.parts.now s n Up a here in
    let left = c.leave.ensures.stands s i.link i.there (agrees_same c.args.parts.now _ s c.in_ok-make_room_beside.ensures.same a) in
    let other : c.leave.new.parts.config.profile ≡ s.settings.profile = ap (λ (m : Settings). m.profile) left.settings in
    let low : n < 16 = omega (arith, here.known, (whole_of c.args.parts.now c.requires.holds).few) in
    elim c.if-blind.branch [
      | then-blind w ↦ rw w.order-is low
      | else-blind w ↦
          let one = ap (λ (l : LinkState). l.profile) (stands_for c.args.parts.now.links.items n w.from.result w.index.result.now w.from.ensures here.known w.index.ensures s.links i.link a.stands.links i.there) ∙ (a.sound.links n i.link i.there).profile in
          rw w.order-is (low, subst (λ (p : Profile). w.last_accepted.result < fsn_count p) (one ∙ sym other) w.last_accepted.ensures.few)
    ]

pub returns-clause-ok : goal.returns-clause-ok
returns-clause-ok o c = λ s a.
    let n = c.args.number in
    let here = c.in_default.ensures.here in
    let i = is_in c.args.parts.now s n Up a here in
    let order : c.if-blind.order ≡ leaving_order c.args.blind n i.link = elim c.if-blind.branch [
      | then-blind w ↦ rw (w.order-is, w.if-blind.true) refl
      | else-blind w ↦ rw (w.order-is, w.if-blind.false, w.last_accepted.ensures.value) (ap (λ link. Coo n (last_accepted link)) (stands_for c.args.parts.now.links.items n w.from.result w.index.result.now w.from.ensures here.known w.index.ensures s.links i.link a.stands.links i.there))
    ] in
    let left = left_by c.args.blind n i.link s in
    served s n (falls c.args.blind n s) c.set_done.new.self c.queue.new.parts i (record {
      answer_is = c.set_done.ensures;
      stands = subst (λ o. StandsFor (kept_of c.queue.new.parts) (queued o left)) order (c.queue.ensures.stands left (c.leave.ensures.stands s i.link i.there (agrees_same c.args.parts.now _ s c.in_ok-make_room_beside.ensures.same a)));
    })
