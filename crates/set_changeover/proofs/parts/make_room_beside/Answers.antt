use Rattle.std.proofs.Common.{arith, ◌∙◌, ap, sym, length}
use Rattle.set_queues.specs.Backs.{back_count}
use Rattle.set_queues.specs.Buffers.{Waiting, Held, Lists}
use Rattle.set_queues.specs.Settling.{on}
use Rattle.set_model.specs.Changeover.{fate_on}
use Rattle.set_changeover.specs.Room.{target_beside}
use Rattle.set_changeover.proofs.parts.make_room_beside.Goals as goal

pub returns-clause-room : goal.returns-clause-room
returns-clause-room o c =
    let n = c.args.number in
    let before = c.in_ok-reserve_each.ensures.same.lists ∙ c.in_ok-reserve-2.ensures.same.0 in
    let back = c.back_count-back.ensures.value ∙ sym (ap (back_count n) (c.in_ok-reserve_all.ensures.same.lists ∙ before)) in
    let fate = c.fate_on-fate.ensures.value ∙ ap fate_on (c.other_target.ensures.value ∙ ap (target_beside n) c.deref.ensures.value) in
    record {
      message = omega (arith, c.in_ok-reserve-2.ensures.room, c.in_ok-reserve_all.ensures.same.room, c.in_ok-reserve_each.ensures.same.room);
      body = c.in_ok-reserve.ensures.room;
      place = rw (← fate) (grind (arith, c.in_ok-reserve_all.ensures.room, c.ok_or.ensures, c.checked_mul.ensures, c.ok_or-2.ensures, c.checked_add.ensures, c.in_ok-turns.is, c.in_ok-more.is, back, ap (λ (l : Lists). length (on n l)) c.in_ok-reserve_all.ensures.same.lists));
      each = λ link low.
          let had = c.in_ok-reserve_each.ensures.room link (omega (arith, low, ap (λ (l : Lists). length l.links) before ∙ c.requires.whole.as_many)) in
          omega (arith, had, back, c.in_ok-reserve_all.ensures.same.kept (Waiting link), c.in_ok-reserve_all.ensures.same.kept (Held link));
    }
