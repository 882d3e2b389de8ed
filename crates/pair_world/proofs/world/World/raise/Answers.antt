use Rattle.std.proofs.Common.{refl, ◌≡◌, ◌∙◌, ap, subst, sym, true, inl, inr}
use Rattle.set_model.specs.History.{LinkSet}
use Rattle.set_model.specs.State.{is_settled}
use Rattle.pair_model.specs.World.{World, is_settled_at_both}
use Rattle.pair_world.specs.Carried.{FailsAt}
use Rattle.pair_world.proofs.WorldLemmas.{rise_fails}
use Rattle.pair_world.proofs.world.World.raise.Goals as goal

pub returns-in_err-apply-clause-carried : goal.returns-in_err-apply-clause-carried
returns-in_err-apply-clause-carried o c =
    let near = ap (λ (w : World). w.a) c.self.view_is in
    let far = ap (λ (w : World). w.b) c.self.view_is in
    let a = subst (λ (set : LinkSet). is_settled c.args.link set.state ≡ true) (c.deref.ensures ∙ near)
    (sym c.is_settled.ensures ∙ c.if-not-is_settled.false) in
    let b = subst (λ (set : LinkSet). is_settled c.args.link set.state ≡ true)
    (c.deref-else-not-is_settled.ensures ∙ far)
    (sym c.is_settled-else-not-is_settled.ensures ∙ c.if-not-is_settled-2.false) in
    let settled : is_settled_at_both c.args.self.now c.args.link ≡ true = rw (a, b) refl in
    rise_fails _ c.in_err-apply.field-0.0 c.args.self.now c.args.link _ _ c.from_residual.ensures.1
    (sym c.holds_link.ensures.value ∙ c.if-not-holds_link.false) settled (sym c.is_full_at_an_end.ensures ∙ c.if-is_full_at_an_end.false)
    (inl (subst (λ (set : LinkSet). FailsAt c.in_err-apply.field-0.0 set) (c.deref_mut.ensures.value ∙ near) c.in_err-apply.ensures.applies))

pub returns-in_err-apply-2-clause-carried : goal.returns-in_err-apply-2-clause-carried
returns-in_err-apply-2-clause-carried o c =
    let near = ap (λ (w : World). w.a) c.self.view_is in
    let far = ap (λ (w : World). w.b) c.self.view_is in
    let a = subst (λ (set : LinkSet). is_settled c.args.link set.state ≡ true) (c.deref.ensures ∙ near)
    (sym c.is_settled.ensures ∙ c.if-not-is_settled.false) in
    let b = subst (λ (set : LinkSet). is_settled c.args.link set.state ≡ true)
    (c.deref-else-not-is_settled.ensures ∙ far)
    (sym c.is_settled-else-not-is_settled.ensures ∙ c.if-not-is_settled-2.false) in
    let settled : is_settled_at_both c.args.self.now c.args.link ≡ true = rw (a, b) refl in
    rise_fails _ c.in_err-apply-2.field-0.0 c.args.self.now c.args.link _ _ c.from_residual-in_err-apply-2.ensures.1
    (sym c.holds_link.ensures.value ∙ c.if-not-holds_link.false) settled (sym c.is_full_at_an_end.ensures ∙ c.if-is_full_at_an_end.false)
    (inr (subst (λ (set : LinkSet). FailsAt c.in_err-apply-2.field-0.0 set) (c.deref_mut-2.ensures.value ∙ far) c.in_err-apply-2.ensures.applies))
