use Rattle.std.proofs.Common.{◌∙◌, ap}
use Rattle.set_model.specs.Checkpoint.{counts_in}
use Rattle.set_model.specs.History.{LinkSet, after, books_in}
use Rattle.set_model.specs.Rows.{total_of}
use Rattle.set_core.proofs.set.SetCore.counts.Goals as goal

pub returns-clause-value : goal.returns-clause-value
returns-clause-value o c =
    let base = c.self.inside.base in
    c.counts.ensures.value (after base.state c.self.inside.history.items) c.self.invariant.0.agrees.stands
    ∙ ap (λ (set : LinkSet). counts_in set.state) c.self.view_is

pub returns-clause-all : goal.returns-clause-all
returns-clause-all o c =
    let base = c.self.inside.base in
    ap total_of (c.counts.ensures.value (after base.state c.self.inside.history.items) c.self.invariant.0.agrees.stands)
    ∙ c.self.invariant.0.placed ∙ ap (λ (set : LinkSet). (books_in set).messages) c.self.view_is
