use Rattle.std.proofs.Common.{refl, arith}
use Rattle.set_changeover.specs.Parts.{Down}
use Rattle.set_changeover.proofs.Links.{agrees_same, is_in, here_room}
use Rattle.set_step.proofs.Timed.{unleft}
use Rattle.set_step.proofs.step.give_up.Goals as goal

pub returns-in_ok-make_room_beside-in-Some-Down-clause-ok : goal.returns-in_ok-make_room_beside-in-Some-Down-clause-ok
returns-in_ok-make_room_beside-in-Some-Down-clause-ok o c = λ s a.
    let i = is_in c.args.parts.now s c.args.number Down a (rw c.in-Some-Down.field-0-is at c.in-Some-Down.ensures.here) in
    rw (i.there, i.phase_is) (record { answer_is = c.set_done.ensures; stands = c.settle.ensures.stands s i.link i.there i.phase_is (agrees_same c.args.parts.now _ s c.in_ok-make_room_beside-in-Some-Down.ensures.same a) })

pub settle-requires-clause-room : goal.settle-requires-clause-room
settle-requires-clause-room o c =
    here_room c.make_room_beside.new.parts c.args.number 0 Down (rw c.in_ok-make_room_beside-in-Some-Down.ensures.same.links (rw c.in-Some-Down.field-0-is at c.in-Some-Down.ensures.here)) refl c.in_ok-make_room_beside-in-Some-Down.ensures.room

pub returns-in-Some-Up : goal.returns-in-Some-Up
returns-in-Some-Up o c = record { ok = λ s a. let i = is_in c.args.parts.now s c.args.number _ a c.in-Some-Up.ensures.here in rw i.there (rw i.phase_is ((unleft c.args.parts.now s c.args.number i.link c.in-Some-Up.field-0 _ (λ e. grind (arith, c.in-Some-Up.is, e)) a c.set_refused-in-Some-Up.ensures).0)); err = tt }
