use Rattle.std.proofs.Common.{◌≡◌, ◌∙◌, ap, sym, subst, [], refl}
use Rattle.set_events.specs.declared.answer.Counts.{Counts}
use Rattle.set_model.specs.Checkpoint.{counts_in}
use Rattle.set_model.specs.History.{Base}
use Rattle.set_changeover.specs.Agreement.{shown}
use Rattle.set_core.specs.Gaining.{AreBounded}
use Rattle.set_core.specs.Keeping.{base_of, books_by}
use Rattle.set_core.proofs.Keeping.{books_begin, bounded}
use Rattle.set_core.proofs.base.Base.books.Goals as goal

pub returns-clause-value : goal.returns-clause-value
returns-clause-value o c =
    let b = c.self.inside in
    let acked : c.counts.result.acked ≡ (counts_in (shown b.order.numbers b.core)).acked = ap (λ (n : Counts). n.acked) (c.counts.ensures.value (shown b.order.numbers b.core) c.self.invariant.agrees.stands) in
    ap (books_by b.tally) acked ∙ ap (λ (base : Base). base.books) c.self.view_is

pub returns-clause-bounded : goal.returns-clause-bounded
returns-clause-bounded o c =
    let b = c.self.inside in
    let k = c.self.invariant in
    let base : Base = base_of b.order.numbers b.core b.tally in
    let acked : c.counts.result.acked ≡ (counts_in (shown b.order.numbers b.core)).acked = ap (λ (n : Counts). n.acked) (c.counts.ensures.value (shown b.order.numbers b.core) k.agrees.stands) in
    subst AreBounded (books_begin base k.users k.terminals refl ∙ sym (ap (books_by b.tally) acked)) (bounded base b.core b.tally [] k)
