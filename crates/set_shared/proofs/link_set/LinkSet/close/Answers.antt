use Rattle.std.proofs.Common.{◌≡◌, ◌∙◌, ap, sym, Result, Ok, Err}
use Rattle.std.specs.Prelude.{IfErr, OnErr}
use Rattle.set_shared.specs.Seating.{Seating}
use Rattle.set_shared.proofs.link_set.LinkSet.close.Goals as goal

-- what is told of a fault, by what is known wherever there is one
told_with : {T E S : Type 0} {P Q : E → Type 0} (r : Result T E) → ((e : E) → S → P e → Q e) → OnErr r S → IfErr r P → IfErr r Q
told_with (Ok x) f s p = tt
told_with (Err e) f s p = f e s p

-- what stood under the lock has as many seats as the set says
pub returns-clause-back : goal.returns-clause-back
returns-clause-back g c =
    let held = c.into_inner-held.result in
    let users_are : held.users ≡ c.args.self.users = sym c.users.ensures.value ∙ c.users.ensures.parts ∙ sym c.self.invariant.0 ∙ ap (λ (s : Seating). s.users) c.self.view_is in
    let links_are : held.links ≡ c.args.self.links = sym c.links.ensures.value ∙ c.links.ensures.parts ∙ sym c.self.invariant.1 ∙ ap (λ (s : Seating). s.links) c.self.view_is in
    told_with c.end.result (λ fault strange back. (held, users_are, links_are, rw (← users_are, ← links_are) back, rw (← users_are, ← links_are) strange)) c.end.ensures.strange c.end.ensures.back
