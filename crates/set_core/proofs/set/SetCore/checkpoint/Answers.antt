use Rattle.std.proofs.Common.{◌≡◌, ◌∙◌, ap, sym}
use Rattle.set_model.specs.Checkpoint.{checkpointed, counts_in}
use Rattle.set_model.specs.History.{Base, LinkSet, after, based, books_in}
use Rattle.set_model.specs.Rows.{numbers}
use Rattle.set_model.proofs.Checkpointing.{counts_stay}
use Rattle.set_changeover.specs.Agreement.{Agrees}
use Rattle.set_core.specs.Keeping.{with_history}
use Rattle.set_core.proofs.Keeping.{based_books, based_settings, kept_by, kept_on, shown_based, with_based}
use Rattle.set_core.proofs.set.SetCore.checkpoint.Given.{Over}
use Rattle.set_core.proofs.set.SetCore.checkpoint.Goals as goal
use Rattle.set_core.proofs.set.SetCore.checkpoint.Goals.{After-clear}

pub of-requires : goal.of-requires
of-requires o c =
    let s = c.self.inside in
    let history = s.history.items in
    let k = c.self.invariant.0 in
    let agrees = c.in_ok-kept.ensures (after s.base.state history) k.agrees in
    let rows = c.of-order.ensures ∙ ap (λ (set : LinkSet). numbers (checkpointed set.state).rows) (sym c.self.view_is) in
    kept_by s.base s.core s.tally history k c.in_ok-kept.kept agrees c.of-order.result.numbers rows

-- the set before it
abbrev before : (o : Over) (c : After-clear o) → LinkSet
before o c = with_history c.self.inside.base c.self.inside.history.items

-- what is kept, and what is copied for the base, agree with what the checkpoint leaves
agrees : (o : Over) (c : After-clear o) → Agrees c.forget.new.self (checkpointed (before o c).state)
agrees o c = c.in_ok-forget.ensures.ok (before o c).state c.self.invariant.0.agrees

copy_agrees : (o : Over) (c : After-clear o) → Agrees c.in_ok-kept.kept (checkpointed (before o c).state)
copy_agrees o c = c.in_ok-kept.ensures (before o c).state c.self.invariant.0.agrees

-- and its base is what the model says
base_is : (o : Over) (c : After-clear o) → c.of.result ≡ (based (before o c)).base
base_is o c =
    let s = c.self.inside in
    let rows = c.of-order.ensures ∙ ap (λ (set : LinkSet). numbers (checkpointed set.state).rows) (sym c.self.view_is) in
    c.of.ensures ∙ shown_based s.base s.core s.tally s.history.items c.self.invariant.0 c.in_ok-kept.kept (copy_agrees o c) c.of-order.result.numbers rows

-- so is the set after it
set_is : (o : Over) (c : After-clear o) → with_history c.of.result c.clear.new.self.items ≡ based (before o c)
set_is o c = let s = c.self.inside in with_based s.base s.core s.tally s.history.items c.self.invariant.0 c.of.result c.clear.new.self.items (base_is o c) c.clear.ensures

pub invariant_of-self-2 : goal.invariant_of-self-2
invariant_of-self-2 o c = let s = c.self.inside in (
  kept_on s.base s.core s.tally s.history.items c.self.invariant.0 c.forget.new.self (agrees o c) c.of.result c.clear.new.self.items (base_is o c) c.clear.ensures,
  c.self.invariant.1 ∙ sym (ap (λ (b : Base). b.state.settings) (base_is o c) ∙ based_settings s.base s.core s.tally s.history.items c.self.invariant.0),
)

pub returns-clause-ok : goal.returns-clause-ok
returns-clause-ok o c = set_is o c ∙ ap based c.self.view_is

pub returns-clause-books : goal.returns-clause-books
returns-clause-books o c = let s = c.self.inside in ap books_in (set_is o c) ∙ based_books s.base s.core s.tally s.history.items c.self.invariant.0 ∙ ap books_in c.self.view_is

pub returns-clause-counts : goal.returns-clause-counts
returns-clause-counts o c = ap (λ (set : LinkSet). counts_in set.state) (set_is o c) ∙ counts_stay (before o c).state ∙ ap (λ (set : LinkSet). counts_in set.state) c.self.view_is
