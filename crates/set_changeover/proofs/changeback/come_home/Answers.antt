use Rattle.std.proofs.Common.{rules, refl, arith, ◌∙◌, ◌≡◌, ◌*◌, ap, Bool, true, [], cond, length}
use Rattle.set_changeover.proofs.Turns.{back_less}
use Rattle.std.proofs.lemmas.Bool.Decides.{nat_tests}
use Rattle.std.proofs.lemmas.Bool.{ne_eqb}
use Rattle.set_queues.specs.Buffers.{Fate, is_standing, Waiting, Back, queue_at}
use Rattle.set_queues.proofs.Soundness.{room_left, passed_replaces}
use Rattle.set_changeover.specs.Parts.{kept_of}
use Rattle.set_changeover.proofs.States.{becomes, released_for}
use Rattle.set_changeover.proofs.changeback.come_home.Goals as goal

pub returns-clause-stands : goal.returns-clause-stands
returns-clause-stands o c = λ s f. rw (← c.home_of_code-home.ensures.value) (becomes (released_for (kept_of c.args.parts.now) s c.args.code c.home_of_code-home.result (s.routing) f (omega arith) (omega arith)) (search rules))

pub returns-clause-fits : goal.returns-clause-fits
returns-clause-fits o c = rw (← c.home_of_code-home.ensures.value) (λ fit.
    let q = c.args.parts.now.queues.lists in
    let home = c.home_of_code-home.result in
    let then = λ (f : Fate) (stands : is_standing f ≡ true). ap (queue_at f) c.divert.ensures.lists ∙ passed_replaces q (Back c.args.code) (Waiting home) refl (omega arith) (omega arith) f stands in
    let less = back_less c.args.code q c.divert.new.self.lists (λ other d. then (Back other) refl ∙ ap (λ (b : Bool). cond b [] (queue_at (Back other) q)) (ne_eqb c.args.code other d)) (length (queue_at (Back c.args.code) q)) (grind (arith, nat_tests, then (Back c.args.code) refl)) (16 * home) 16 (omega arith) in
    grind (arith, nat_tests, less, fit, room_left (Waiting home) _ _ _ tt c.divert.ensures.rooms))
