use Rattle.std.proofs.Common.{ap, sym, subst, [], List}
use Rattle.set_events.specs.declared.history.Entry.{Entry}
use Rattle.set_model.specs.History.{Base}
use Rattle.set_core.specs.Keeping.{IsKept}
use Rattle.set_core.proofs.Keeping.{kept_new}
use Rattle.set_core.proofs.set.SetCore.new.Goals as goal

pub invariant_of-result : goal.invariant_of-result
invariant_of-result o c =
    let core = c.in_ok-new.field-0 in
    let tally = c.new-2.result in
    let base = c.in_ok-opening.field-0 in (
      subst (λ (history : List Entry). IsKept base core tally history) (sym c.new-3.ensures)
          (subst (λ (b : Base). IsKept b core tally []) (sym c.in_ok-opening.ensures.ok) (kept_new c.args.config.now core tally c.in_ok-new.ensures.ok c.new-2.ensures)),
      ap (λ (b : Base). b.state.settings) (sym c.in_ok-opening.ensures.ok),
    )
