use Rattle.std.proofs.Common.{refl, ap, sym, ◌∙◌}
use Rattle.l2_units.specs.declared.profile.Profile.{Profile}
use Rattle.l3_orders.specs.Grammar.{order_of}
use Rattle.set_queues.specs.Buffers.{Waiting}
use Rattle.set_model.specs.Changeover.{overtakes}
use Rattle.set_model.specs.State.{Settings}
use Rattle.set_changeover.specs.Parts.{kept_of}
use Rattle.set_traffic.proofs.Traffic.{found_at}
use Rattle.set_traffic.proofs.Overtaken.{none_first, first_is}
use Rattle.set_traffic.proofs.clearing.is_first_overtaken.Goals as goal

pub returns-in_default : goal.returns-in_default
returns-in_default o c = λ s f. none_first c.args.number s (kept_of c.args.parts.now) f (sym c.number_at.ensures ∙ c.in_default.is)

pub body-requires : goal.body-requires
body-requires o c =
    let f = c.requires.stands.1 in
    let at = found_at _ _ f (Waiting c.args.number) 0 c.in-Some.message refl (sym c.number_at.ensures ∙ c.in-Some.is) in
    rw (f.bodies c.in-Some.message, at.body_is) refl

pub returns : goal.returns
returns o c = λ s f.
    let body = c.body.result.now in
    let profile = c.profile.ensures ∙ ap (λ (m : Settings). m.profile) f.settings in
    let order = c.order_in-order.ensures.exact ∙ ap (λ (p : Profile). order_of p body) profile in
    c.is_overtaken.ensures s f ∙ ap (overtakes s) order ∙ sym (first_is c.args.number c.in-Some.message s (kept_of c.args.parts.now) body f (sym c.number_at.ensures ∙ c.in-Some.is) c.body.ensures)
