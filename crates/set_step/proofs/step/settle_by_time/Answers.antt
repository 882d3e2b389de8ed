use Rattle.std.proofs.Common.{refl, sym, arith, ◌∙◌, ap, List, slice_get}
use Rattle.set_model.specs.Changeover.{fate_on, taken_back}
use Rattle.set_model.specs.State.{LinkState, target}
use Rattle.set_model.proofs.Events.{taken_back_rows}
use Rattle.set_model.proofs.SoundLink.{takes_back}
use Rattle.set_changeover.specs.Parts.{Down, unsent_at}
use Rattle.set_changeover.proofs.Links.{agrees_same, is_in, here_room}
use Rattle.set_step.proofs.Timed.{by_time, missing, not_timed, unleft}
use Rattle.set_step.proofs.step.settle_by_time.Goals as goal

pub settle-requires-clause-room : goal.settle-requires-clause-room
settle-requires-clause-room o c =
    let roomy = c.make_room_beside.new.parts in
    let room = here_room roomy c.args.number 0 Down (rw c.in_ok-make_room_beside-in-Some.ensures.same.links (rw c.in-Some-Down.field-0-is at c.in-Some-Down.ensures.here)) refl c.in_ok-make_room_beside-in-Some.ensures.room in
    let keeps = c.take_back.ensures.rooms (fate_on (target roomy.links.items)) in
    rw c.take_back.ensures.links (omega (arith, c.take_back.ensures.fewer, room, keeps))

pub returns-in-None-clause-ok : goal.returns-in-None-clause-ok
returns-in-None-clause-ok o c = λ s a. missing c.args.parts.now s c.args.number _ _ a (sym c.in-None.is ∙ c.phase_of.ensures.value) c.set_refused.ensures

pub returns-in-None-unsent_order-clause-ok : goal.returns-in-None-unsent_order-clause-ok
returns-in-None-unsent_order-clause-ok o c = λ s a.
    let n = c.args.number in
    let i = is_in c.args.parts.now s n Down a (rw c.in-Some-Down.field-0-is at c.in-Some-Down.ensures.here) in
    let read = c.unsent_order.ensures.value i.link (ap (λ (ls : List LinkState). slice_get ls n) a.stands.links ∙ i.there) in
    let still = not_timed _ n s i.link (ap unsent_at (sym (a.stands.stands.fates i.link.order)) ∙ sym read ∙ c.in-None-unsent_order.is) in
    rw (i.there, i.phase_is, still) (record { answer_is = c.set_refused-in-None-unsent_order.ensures; stands = a.stands })

pub returns-in_ok-make_room_beside-in-Some-clause-ok : goal.returns-in_ok-make_room_beside-in-Some-clause-ok
returns-in_ok-make_room_beside-in-Some-clause-ok o c = λ s a.
    let n = c.args.number in
    let from = c.in-Some.from in
    let i = is_in c.args.parts.now s n Down a (rw c.in-Some-Down.field-0-is at c.in-Some-Down.ensures.here) in
    let read = c.unsent_order.ensures.value i.link (ap (λ (ls : List LinkState). slice_get ls n) a.stands.links ∙ i.there) in
    let is = by_time _ from n s i.link (ap unsent_at (sym (a.stands.stands.fates i.link.order)) ∙ sym read ∙ c.in-Some.is) in
    let same = agrees_same c.args.parts.now _ s c.in_ok-make_room_beside-in-Some.ensures.same a in
    let mid = taken_back i.link.order from s in
    rw (i.there, i.phase_is, is.outcome) (record {
      answer_is = c.set_done.ensures;
      stands = c.settle.ensures.stands mid i.link i.there i.phase_is (record {
        stands = c.take_back.ensures.stands s i.link i.there same.stands;
        sound = takes_back i.link.order from s (taken_back_rows i.link.order from s.rows is.unsent) same.sound;
      });
    })

pub returns-in-Some-Up : goal.returns-in-Some-Up
returns-in-Some-Up o c = record { ok = λ s a. let i = is_in c.args.parts.now s c.args.number _ a c.in-Some-Up.ensures.here in rw i.there (rw i.phase_is ((unleft c.args.parts.now s c.args.number i.link c.in-Some-Up.field-0 _ (λ e. grind (arith, c.in-Some-Up.is, e)) a c.set_refused-in-Some-Up.ensures).1)); err = tt }
