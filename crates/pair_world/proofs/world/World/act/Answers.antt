use Rattle.std.proofs.Common.{◌∙◌, ap, subst, sym}
use Rattle.set_events.specs.Lent.{event_in}
use Rattle.set_model.specs.History.{LinkSet}
use Rattle.pair_steps.specs.declared.step.End.TheVariants.{A, B}
use Rattle.pair_model.specs.World.{World}
use Rattle.pair_world.specs.Carried.{FailsAt}
use Rattle.pair_world.proofs.WorldLemmas.{act_fails}
use Rattle.pair_world.proofs.world.World.act.Goals as goal

pub returns-in_err-apply-in-A-clause-acts : goal.returns-in_err-apply-in-A-clause-acts
returns-in_err-apply-in-A-clause-acts o c =
    let same = c.deref_mut.ensures.value ∙ ap (λ (w : World). w.a) c.self.view_is in
    rw c.in-A.is (act_fails _ c.in_err-apply-in-A.field-0.0 c.args.self.now A (event_in c.args.event.now) _ _
    c.from_residual.ensures.1 (sym c.in-Some.ensures.known)
    (subst (λ (set : LinkSet). FailsAt c.in_err-apply-in-A.field-0.0 set) same c.in_err-apply-in-A.ensures.applies))

pub returns-in_err-apply-in-B-clause-acts : goal.returns-in_err-apply-in-B-clause-acts
returns-in_err-apply-in-B-clause-acts o c =
    let same = c.deref_mut-in-B.ensures.value ∙ ap (λ (w : World). w.b) c.self.view_is in
    rw c.in-B.is (act_fails _ c.in_err-apply-in-B.field-0.0 c.args.self.now B (event_in c.args.event.now) _ _
    c.from_residual-in_err-apply-in-B.ensures.1 (sym c.in-Some.ensures.known)
    (subst (λ (set : LinkSet). FailsAt c.in_err-apply-in-B.field-0.0 set) same c.in_err-apply-in-B.ensures.applies))
