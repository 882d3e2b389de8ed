use Rattle.std.proofs.Common.{sym, ◌∙◌}
use Rattle.set_core.specs.Hearing.{entry_of}
use Rattle.set_core.proofs.Heard.{can_hear, few_octets, nobody_found, right_found, wrong_found}
use Rattle.set_events.specs.Lent.{answer_in, event_in}
use Rattle.set_core.proofs.auditor.Auditor.hear_entry.Goals as goal

-- src/auditor.rt
pub returns-then-not-can_ask-clause-found : goal.returns-then-not-can_ask-clause-found
returns-then-not-can_ask-clause-found o c = λ base items heard.
    nobody_found base items c.args.self.now (entry_of c.args.who (event_in c.args.event.now) (answer_in c.args.answer.now)) (sym c.if-not-can_ask.true ∙ c.can_ask.ensures.value) heard

pub count-requires-clause-body : goal.count-requires-clause-body
count-requires-clause-body o c =
    let k = c.self.invariant in
    rw c.get-right.ensures.value (few_octets k.state (event_in c.args.event.now) c.self.inside.core c.apply.new.reply k.agrees (c.in_ok-apply.ensures.ok k.state k.agrees).answer_is)

pub invariant_of-self-then-not-same : goal.invariant_of-self-then-not-same
invariant_of-self-then-not-same o c =
    can_hear _ _ (entry_of c.args.who (event_in c.args.event.now) c.apply.new.reply) c.self.invariant c.in_ok-apply.ensures.ok c.if-self-ge-LONGEST_HISTORY.false (record {
      user_calls = c.count.ensures.user_calls;
      term_calls = c.count.ensures.term_calls;
      messages = rw c.get-right.ensures.value at c.count.ensures.messages;
      octets = rw c.get-right.ensures.value at c.count.ensures.octets;
      entries = c.count.ensures.entries;
    })

pub returns-then-not-same-clause-found : goal.returns-then-not-same-clause-found
returns-then-not-same-clause-found o c = λ base items heard.
    wrong_found base items c.args.self.now c.self.inside.core c.apply.new.self c.self.inside.tally c.count.new.self c.self.inside.reply c.apply.new.reply (entry_of c.args.who (event_in c.args.event.now) (answer_in c.args.answer.now)) c.self.view_is heard c.in_ok-apply.ensures.ok
    (sym c.if-not-can_ask.false ∙ c.can_ask.ensures.value) (λ e. let yes = c.same.ensures.1 (c.get-right.ensures.value ∙ e) in let no = c.if-not-same.true in cc)

pub returns-clause-found : goal.returns-clause-found
returns-clause-found o c = λ base items heard.
    right_found base items c.args.self.now c.self.inside.core c.apply.new.self c.self.inside.tally c.count.new.self c.self.inside.reply c.apply.new.reply (entry_of c.args.who (event_in c.args.event.now) (answer_in c.args.answer.now)) c.self.view_is heard c.in_ok-apply.ensures.ok
    (c.can_ask.ensures.can.0 c.if-not-can_ask.false) (sym c.get-right.ensures.value ∙ c.same.ensures.0 c.if-not-same.false) (record {
      user_calls = c.count.ensures.user_calls;
      term_calls = c.count.ensures.term_calls;
      messages = rw c.get-right.ensures.value at c.count.ensures.messages;
      octets = rw c.get-right.ensures.value at c.count.ensures.octets;
      entries = c.count.ensures.entries;
    })

pub returns-clause-answer : goal.returns-clause-answer
returns-clause-answer o c = λ right. sym c.get-right.ensures.value ∙ c.same.ensures.0 c.if-not-same.false

pub invariant_of-self-2 : goal.invariant_of-self-2
invariant_of-self-2 o c =
    can_hear _ _ (entry_of c.args.who (event_in c.args.event.now) c.apply.new.reply) c.self.invariant c.in_ok-apply.ensures.ok c.if-self-ge-LONGEST_HISTORY.false (record {
      user_calls = c.count.ensures.user_calls;
      term_calls = c.count.ensures.term_calls;
      messages = rw c.get-right.ensures.value at c.count.ensures.messages;
      octets = rw c.get-right.ensures.value at c.count.ensures.octets;
      entries = c.count.ensures.entries;
    })
