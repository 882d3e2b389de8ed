use Rattle.std.proofs.Common.{subst, ℕ, ◌-◌, ◌+◌, arith, ◌≡◌, ◌∙◌, refl, sym, length}
use Rattle.std.proofs.lemmas.Bool.Decides.{nat_tests}
use Rattle.set_queues.specs.Bodies.{CanHold}
use Rattle.set_queues.specs.Buffers.{Waiting}
use Rattle.set_model.specs.Step.{restores}
use Rattle.set_changeover.specs.Parts.{Up}
use Rattle.set_changeover.proofs.Links.{open_there, served, is_in, whole_of}
use Rattle.set_model.specs.Changeover.{declared_from, declared_if}
use Rattle.set_changeover.proofs.Declaring.{count_is, becomes_next}
use Rattle.set_changeover.proofs.changeback.restore.Goals as goal

pub returns-then-not-is_open-clause-ok : goal.returns-then-not-is_open-clause-ok
returns-then-not-is_open-clause-ok o c = λ s a.
    let i = is_in c.args.parts.now s c.args.number Up a c.in_default.ensures.here in
    served s c.args.number (restores c.args.number s) _ c.args.parts.now i
    (rw (open_there c.args.parts.now s c.args.number Up c.is_open.result a i c.is_open.ensures, c.if-not-is_open.true)
    (record { answer_is = c.set_refused-then-not-is_open.ensures; stands = a.stands }))

pub returns-then-not-has_alternative-clause-ok : goal.returns-then-not-has_alternative-clause-ok
returns-then-not-has_alternative-clause-ok o c = λ s a.
    served s c.args.number (restores c.args.number s) _ c.args.parts.now (is_in c.args.parts.now s c.args.number Up a c.in_default.ensures.here) (rw (open_there c.args.parts.now s c.args.number Up c.is_open.result a (is_in c.args.parts.now s c.args.number Up a c.in_default.ensures.here) c.is_open.ensures, c.if-not-is_open.false, sym (c.has_alternative.ensures s a.stands) ∙ c.if-not-has_alternative.true) (record { answer_is = c.set_refused-then-not-has_alternative.ensures; stands = a.stands }))

pub returns-clause-ok : goal.returns-clause-ok
returns-clause-ok o c = λ s a. let end : c.loop-alternative.alternative ≡ length c.args.parts.now.links.items = omega (arith, (whole_of c.args.parts.now c.requires.holds).few) in
    served s c.args.number (restores c.args.number s) c.set_done.new.self c.loop-alternative.parts (is_in c.args.parts.now s c.args.number Up a c.in_default.ensures.here) (rw (open_there c.args.parts.now s c.args.number Up c.is_open.result a (is_in c.args.parts.now s c.args.number Up a c.in_default.ensures.here) c.is_open.ensures, c.if-not-is_open.false, sym (c.has_alternative.ensures s a.stands) ∙ c.if-not-has_alternative.false) (record {
      answer_is = c.set_done.ensures;
      stands = rw (count_is c.args.parts.now s a.stands, ← end) (c.loop-alternative.invariant.stands s a.stands);
    }))

pub loop-alternative-preserved : goal.loop-alternative-preserved
loop-alternative-preserved o c =
    let n = c.loop-alternative.alternative in
    let inv = c.loop-alternative.invariant in
    let change = c.ask.ensures.change in
    record {
      stands = becomes_next (declared_from c.args.number) (declared_if c.args.number) (λ from s. refl) (λ from n s. refl) n 0 n c.args.parts.now c.loop-alternative.parts (record c.stand_last-message.new.parts { routes = c.ask.new.self }) (omega arith) inv.stands (λ s f. rw (← c.may_declare.ensures s f, c.if-not-may_declare.false) (let stands = c.stand_last-message.ensures.stands s f in grind (arith, stands, change, f.settings, c.changeback_code.ensures, c.body_of-body.ensures, c.as_slice.ensures, c.stand_last-message.ensures.number, f.given_out)));
      whole = grind arith;
      links = c.stand_last-message.ensures.links ∙ inv.links;
      room = record {
        message = omega (arith, inv.room.message, c.stand_last-message.ensures.message);
        body = c.stand_last-message.ensures.body (16 - (n + 1)) (subst (λ (more : ℕ). CanHold more c.loop-alternative.parts.bodies) (let same : 16 - n ≡ 16 - (n + 1) + 1 = omega (arith, (whole_of c.args.parts.now c.requires.holds).few) in same) inv.room.body);
        each = λ link far low. grind (arith, nat_tests, inv.room.each link, c.stand_last-message.ensures.rooms (Waiting link), c.stand_last-message.ensures.links);
      };
    }

pub loop-alternative-preserved-then-not-may_declare : goal.loop-alternative-preserved-then-not-may_declare
loop-alternative-preserved-then-not-may_declare o c =
    let n = c.loop-alternative.alternative in
    let inv = c.loop-alternative.invariant in
    record {
      stands = becomes_next (declared_from c.args.number) (declared_if c.args.number) (λ from s. refl) (λ from n s. refl) n 0 n c.args.parts.now c.loop-alternative.parts c.loop-alternative.parts (omega arith) inv.stands (λ s f. rw (← c.may_declare.ensures s f, c.if-not-may_declare.true) f);
      whole = inv.whole;
      links = inv.links;
      room = record { message = omega (arith, inv.room.message); body = let body = inv.room.body in (omega (arith, body.0), omega (arith, body.1)); each = λ link far low. inv.room.each link (omega (arith, far)) low };
    }
