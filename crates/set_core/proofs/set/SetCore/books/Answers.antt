use Rattle.std.proofs.Common.{arith, ◌≡◌, ◌∙◌, ap}
use Rattle.set_events.specs.declared.answer.Counts.{Counts}
use Rattle.set_model.specs.Checkpoint.{counts_in}
use Rattle.set_model.specs.History.{LinkSet, after, books_in, books_of}
use Rattle.set_core.proofs.Keeping.{books_told, bounded}
use Rattle.set_core.proofs.set.SetCore.books.Goals as goal

pub returns-clause-bounded : goal.returns-clause-bounded
returns-clause-bounded o c =
    let k = c.self.invariant.0 in
    let base = c.self.inside.base in
    let history = c.self.inside.history.items in
    let counted = k.counted in
    let messages = counted.messages in
    let few = bounded base c.self.inside.core c.self.inside.tally history k in
    let few_acked = few.acknowledged in
    let acked : c.counts.result.acked ≡ (counts_in (after base.state history)).acked = ap (λ (n : Counts). n.acked) (c.counts.ensures.value (after base.state history) k.agrees.stands) in
    record {
      user_calls = rw counted.user_calls few.user_calls;
      term_calls = rw counted.term_calls few.term_calls;
      messages = rw messages few.messages;
      octets = rw counted.octets few.octets;
      acknowledged = omega (arith, acked, messages, few_acked);
    }

pub returns-clause-value : goal.returns-clause-value
returns-clause-value o c =
    let k = c.self.invariant.0 in
    let base = c.self.inside.base in
    let history = c.self.inside.history.items in
    let acked : c.counts.result.acked ≡ (counts_in (after base.state history)).acked = ap (λ (n : Counts). n.acked) (c.counts.ensures.value (after base.state history) k.agrees.stands) in
    books_told c.self.inside.tally (books_of base history) c.counts.result.acked k.counted acked ∙ ap (λ (set : LinkSet). books_in set) c.self.view_is
