use Rattle.std.proofs.Common.{◌∙◌, refl, arith, ap, sym, subst, length, List, ◌<◌}
use Rattle.set_queues.specs.Buffers.{Lists}
use Rattle.set_route.specs.Routing.{raised}
use Rattle.set_model.specs.Rows.{Waiting}
use Rattle.set_model.specs.Step.{opened_link, risen_link}
use Rattle.set_changeover.specs.Parts.{Settled, kept_of}
use Rattle.set_model.specs.State.{LinkState, late_at, late_in}
use Rattle.set_model.proofs.Lists.{set_twice, within}
use Rattle.set_changeover.proofs.Links.{agrees_same, is_in, stands_for}
use Rattle.set_changeover.proofs.States.{becomes, risen_for}
use Rattle.set_step.proofs.Kept.{is_empty}
use Rattle.set_step.proofs.step.bring_up.Goals as goal

pub reset-requires-clause-unsent : goal.reset-requires-clause-unsent
reset-requires-clause-unsent o c = (is_empty c.args.parts.now _ c.args.number c.requires.holds (rw c.in-Some-Settled.field-0-is at c.in-Some-Settled.ensures.here) c.in_ok-make_room_parked-in-Some-Settled.ensures.same).unsent

pub divert-requires-clause-room : goal.divert-requires-clause-room
divert-requires-clause-room o c =
    let same = ap (λ (q : Lists). length q.parked) c.reset.ensures.lists in
    let room = c.reset.ensures.rooms (Waiting c.args.number) in
    let enough = c.in_ok-make_room_parked-in-Some-Settled.ensures.room in
    omega (arith, same, room, enough)

pub returns-in_ok-make_room_parked-in-Some-Settled-clause-ok : goal.returns-in_ok-make_room_parked-in-Some-Settled-clause-ok
returns-in_ok-make_room_parked-in-Some-Settled-clause-ok o c = λ s a.
    let n = c.args.number in
    let roomy = c.make_room_parked.new.parts in
    let f = (agrees_same c.args.parts.now roomy s c.in_ok-make_room_parked-in-Some-Settled.ensures.same a).stands in
    let i = is_in c.args.parts.now s n Settled a (rw c.in-Some-Settled.field-0-is at c.in-Some-Settled.ensures.here) in
    let known = subst (λ (ls : List LinkState). n < length ls) (sym f.links) (within s.links n i.link i.there) in
    let same = ap (λ (l : LinkState). l.late) (stands_for roomy.links.items n c.from.result c.index_mut-link.result.now c.from.ensures known c.index_mut-link.ensures.value s.links i.link f.links i.there) ∙ sym (ap late_in i.there) in
    rw (i.there, i.phase_is, set_twice s.links n (risen_link s.settings.profile s.settings.method (late_at n s)) (opened_link (risen_link s.settings.profile s.settings.method (late_at n s)))) (record {
      answer_is = c.set_done.ensures;
      stands = becomes (risen_for (kept_of roomy) s n i.link (opened_link (risen_link s.settings.profile s.settings.method (late_at n s))) (raised n s.routing) f i.there refl (sym (a.sound.links n i.link i.there).profile))
          (rw (c.divert.ensures.messages, c.divert.ensures.lists, c.reset.ensures.lists, c.reset.ensures.same.0, f.links, c.from.ensures, c.pass_test.ensures, c.rise.ensures, same, c.profile-profile.ensures, ← f.settings, c.raise.ensures, f.routing) refl);
    })
