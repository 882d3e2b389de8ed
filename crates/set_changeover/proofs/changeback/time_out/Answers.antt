use Rattle.set_changeover.proofs.Links.{known_here}
use Rattle.std.proofs.Common.{arith, refl, sym, ◌≡◌, ◌∙◌, ◌*◌}
use Rattle.set_queues.proofs.Tallies.{back_below}
use Rattle.set_route.specs.Routing.{code_for, home_of}
use Rattle.set_model.specs.Changeover.{released_from, released}
use Rattle.set_changeover.proofs.Declaring.{becomes_next}
use Rattle.set_changeover.proofs.changeback.time_out.Goals as goal

pub returns-then-not-has_code_in_use-clause-ok : goal.returns-then-not-has_code_in_use-clause-ok
returns-then-not-has_code_in_use-clause-ok o c = λ s a. known_here c.args.parts.now c.args.parts.now s c.args.number _ _ a (omega arith) (rw (sym (c.has_code_in_use.ensures s a.stands) ∙ c.if-not-has_code_in_use.true) (record { answer_is = c.set_refused-then-not-has_code_in_use.ensures; stands = a.stands }))

pub returns-clause-ok : goal.returns-clause-ok
returns-clause-ok o c = λ s a. let end : c.loop-alternative.alternative ≡ 16 = omega arith in
    known_here c.args.parts.now c.loop-alternative.parts s c.args.number _ _ a (omega arith) (rw (sym (c.has_code_in_use.ensures s a.stands) ∙ c.if-not-has_code_in_use.false) (record { answer_is = c.set_done.ensures; stands = rw end at (c.loop-alternative.invariant.stands s a.stands) }))

pub release-requires-clause-room : goal.release-requires-clause-room
release-requires-clause-room o c =
    let room = c.loop-alternative.invariant.room in
    let below = back_below (16 * c.args.number) c.loop-alternative.alternative c.loop-alternative.parts.queues.lists (omega arith) in
    let home : home_of c.changeback_code.result ≡ c.args.number = omega arith in
    rw (home, c.changeback_code.ensures) (omega (arith, room, below))

pub loop-alternative-preserved : goal.loop-alternative-preserved
loop-alternative-preserved o c =
    let home : home_of c.changeback_code.result ≡ c.args.number = omega arith in
    record {
      whole = c.release.ensures.whole;
      links = c.release.ensures.links ∙ c.loop-alternative.invariant.links;
      room = rw home at c.release.ensures.fits c.loop-alternative.invariant.room;
      stands = becomes_next released_from released (λ from s. refl) (λ from n s. refl) c.loop-alternative.alternative (code_for c.args.number 0) c.changeback_code.result c.args.parts.now c.loop-alternative.parts c.release.new.parts (omega arith) c.loop-alternative.invariant.stands c.release.ensures.stands;
    }
