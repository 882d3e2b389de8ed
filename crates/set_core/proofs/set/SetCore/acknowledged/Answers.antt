use Rattle.std.proofs.Common.{◌∙◌, ap}
use Rattle.set_events.specs.declared.answer.Counts.{Counts}
use Rattle.set_model.specs.History.{LinkSet, after, books_in}
use Rattle.set_core.proofs.set.SetCore.acknowledged.Goals as goal

pub returns : goal.returns
returns o c =
    let base = c.self.inside.base in
    ap (λ (n : Counts). n.acked) (c.counts.ensures.value (after base.state c.self.inside.history.items) c.self.invariant.0.agrees.stands)
    ∙ ap (λ (set : LinkSet). (books_in set).acknowledged) c.self.view_is
