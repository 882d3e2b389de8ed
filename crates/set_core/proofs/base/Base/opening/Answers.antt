use Rattle.std.proofs.Common.{◌∙◌, ap, sym, subst, [], List, ℕ}
use Rattle.set_model.specs.History.{Base}
use Rattle.set_core.specs.Keeping.{IsKept, base_of}
use Rattle.set_core.proofs.Keeping.{kept_new, opened_base}
use Rattle.set_core.proofs.base.Base.opening.Goals as goal

pub invariant_of-result : goal.invariant_of-result
invariant_of-result o c =
    let core = c.in_ok-new.field-0 in
    let tally = c.new-2.result in
    subst (λ (base : Base). IsKept base core tally []) (sym (ap (λ (ns : List ℕ). base_of ns core tally) c.empty.ensures ∙ opened_base c.args.config.now core tally c.in_ok-new.ensures.ok c.new-2.ensures))
    (kept_new c.args.config.now core tally c.in_ok-new.ensures.ok c.new-2.ensures)

pub returns-clause-ok : goal.returns-clause-ok
returns-clause-ok o c =
    let core = c.in_ok-new.field-0 in
    let tally = c.new-2.result in
    ap (λ (ns : List ℕ). base_of ns core tally) c.empty.ensures ∙ opened_base c.args.config.now core tally c.in_ok-new.ensures.ok c.new-2.ensures
