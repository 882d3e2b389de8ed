use Rattle.std.proofs.Common.{arith, refl, subst, ◌≡◌, ◌∙◌, ◌+◌, ◌-◌, ℕ}
use Rattle.set_route.specs.Routing.{code_for}
use Rattle.set_model.specs.Changeover.{redeclared_from, redeclared_if}
use Rattle.set_model.specs.Step.{Outcome}
use Rattle.set_model.proofs.SoundBack.{all_redeclared}
use Rattle.set_changeover.specs.Parts.{Gives}
use Rattle.set_changeover.specs.Room.{HasRoomAgain}
use Rattle.set_changeover.proofs.Declaring.{becomes_next, redeclares_as}
use Rattle.set_changeover.proofs.Links.{known_here}
use Rattle.set_changeover.proofs.changeback.redeclare.Goals as goal

pub returns-then-not-has_overdue-clause-ok : goal.returns-then-not-has_overdue-clause-ok
returns-then-not-has_overdue-clause-ok o c = λ s a. known_here c.args.parts.now c.args.parts.now s c.args.number _ _ a (omega arith)
    (subst (λ (is : Outcome). Gives is c.set_refused-then-not-has_overdue.new.self c.args.parts.now) (redeclares_as c.args.number s c.has_overdue.result (c.has_overdue.ensures s a.stands))
    (rw c.if-not-has_overdue.true (record { answer_is = c.set_refused-then-not-has_overdue.ensures; stands = a.stands })))

pub declare_again-requires-clause-holds : goal.declare_again-requires-clause-holds
declare_again-requires-clause-holds o c =
    let s = c.requires.holds.0 in
    let a = c.requires.holds.1 in (
      redeclared_from (code_for c.args.number 0) c.loop-alternative.alternative s,
      record {
        stands = c.loop-alternative.invariant.stands s a.stands;
        sound = all_redeclared (code_for c.args.number 0) c.loop-alternative.alternative s a.sound;
      },
    )

pub loop-alternative-preserved : goal.loop-alternative-preserved
loop-alternative-preserved o c =
    let n = c.loop-alternative.alternative in
    let inv = c.loop-alternative.invariant in
    let more : 16 - n ≡ 16 - (n + 1) + 1 = omega arith in
    record {
      stands = becomes_next redeclared_from redeclared_if (λ from s. refl) (λ from n s. refl) n (code_for c.args.number 0) c.changeback_code.result c.args.parts.now c.loop-alternative.parts c.declare_again.new.parts (omega arith) inv.stands c.declare_again.ensures.stands;
      links = c.declare_again.ensures.links ∙ inv.links;
      room = c.declare_again.ensures.room (16 - (n + 1)) (subst (λ (k : ℕ). HasRoomAgain k c.loop-alternative.parts) more inv.room);
    }

pub returns-clause-ok : goal.returns-clause-ok
returns-clause-ok o c = λ s a.
    let end : c.loop-alternative.alternative ≡ 16 = omega arith in
    known_here c.args.parts.now c.loop-alternative.parts s c.args.number _ _ a (omega arith)
    (subst (λ (is : Outcome). Gives is c.set_done.new.self c.loop-alternative.parts) (redeclares_as c.args.number s c.has_overdue.result (c.has_overdue.ensures s a.stands))
    (rw c.if-not-has_overdue.false (record { answer_is = c.set_done.ensures; stands = rw end at (c.loop-alternative.invariant.stands s a.stands) })))
