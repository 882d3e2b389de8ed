use Rattle.std.proofs.Common.{refl, arith, ◌≡◌, false}
use Rattle.set_queues.specs.Buffers.{Fate, Waiting, Unacked, Held, same_fate}
use Rattle.set_queues.proofs.Standing.{queue_away}
use Rattle.set_changeover.proofs.Links.{place_for}
use Rattle.set_changeover.proofs.changeover.queue.Goals as goal

pub returns-clause-elsewhere : goal.returns-clause-elsewhere
returns-clause-elsewhere o c = λ number known out.
    let q = c.args.parts.now.queues.lists in
    let place = place_for number c.target_of.result c.fate_on-fate.result q c.deref.ensures.value c.target_of.ensures.value c.target_of.ensures.below c.fate_on-fate.ensures.value c.requires.whole.as_many known out in
    let aside = place.0 in
    let away = λ (f : Fate). queue_away c.fate_on-fate.result f _ q _ c.stand_ahead.ensures.lists aside.other in
    let sent : same_fate c.fate_on-fate.result (Unacked number) ≡ false = grind (arith, aside.queued) in
    rw (away (Unacked number) sent, away (Waiting number) aside.unsent, away (Held number) aside.held) refl
