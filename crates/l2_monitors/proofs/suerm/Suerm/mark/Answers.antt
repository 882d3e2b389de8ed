use Rattle.std.proofs.Common.{◌≡◌, true, rules, refl}
use Rattle.l2_monitors.proofs.Counting.{Leaves-push, HasTripped-push_not}
use Rattle.l2_monitors.proofs.suerm.Suerm.mark.Goals as goal

pub returns-clause-goes_on : goal.returns-clause-goes_on
returns-clause-goes_on c = λ past old.
    let below : c.args.error ≡ true → c.self.inside.count ≡ 63 → ⊥ = search rules in
    Leaves-push past c.args.error _ _ (rw (← c.self.view_is) at old) c.if-self.false c.if-self.false below refl c.count_after-self-inside.ensures

pub returns-clause-tripped : goal.returns-clause-tripped
returns-clause-tripped c = λ past old.
    let below : c.args.error ≡ true → c.self.inside.count ≡ 63 → ⊥ = search rules in
    (λ flag. absurd (search rules), λ tripped. absurd (HasTripped-push_not past c.args.error _ (rw (← c.self.view_is) at old) c.if-self.false below tripped))
