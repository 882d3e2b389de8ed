use Rattle.std.proofs.Common.{◌∙◌, ap}
use Rattle.set_ledger.specs.Totals.{HeldState}
use Rattle.set_ledger.proofs.Telling.{totals_told, same_totals}
use Rattle.set_ledger.proofs.held.Held.totals.Goals as goal

pub returns-clause-value : goal.returns-clause-value
returns-clause-value g c = same_totals c.self.inside.core _ _ (totals_told c.self.inside.core c.books-books.result c.entries.result c.books-books.ensures.value c.entries.ensures.value) c.self.invariant.0 ∙ ap (λ (held : HeldState). held.totals) c.self.view_is

pub returns-clause-adds_up : goal.returns-clause-adds_up
returns-clause-adds_up g c = rw (← c.self.view_is) (totals_told c.self.inside.core c.books-books.result c.entries.result c.books-books.ensures.value c.entries.ensures.value)
