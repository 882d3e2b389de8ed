use Rattle.std.proofs.Common.{arith, ◌≡◌, ◌∙◌, ap, ◌<◌, ◌^◌, ◌∷◌, [], ◌++◌, List, subst, sym}
use Rattle.set_events.specs.Lent.{event_in}
use Rattle.set_events.specs.declared.history.Entry.{Entry}
use Rattle.set_model.specs.History.{Base, LinkSet, after, books_of, entries_in, entries_of}
use Rattle.set_model.specs.Step.{step}
use Rattle.set_model.proofs.Staying.{step_gains}
use Rattle.set_step.specs.Answering.{AnswersFor}
use Rattle.set_core.specs.Keeping.{IsKept}
use Rattle.set_core.proofs.Calls.{in_sum}
use Rattle.set_core.proofs.Keeping.{few_more, kept_more, gained, is_step, bounded}
use Rattle.set_core.proofs.set.SetCore.apply_into.Given.{Over}
use Rattle.set_core.proofs.set.SetCore.apply_into.Goals as goal
use Rattle.set_core.proofs.set.SetCore.apply_into.Goals.{After-push}

abbrev entry : (o : Over) (c : After-push o) → Entry
entry o c = record { who = c.args.who; event = event_in c.args.event.now; answer = c.apply.new.reply }

abbrev base : (o : Over) (c : After-push o) → Base
base o c = c.self.inside.base

-- the entry stands last
grown : (o : Over) (c : After-push o) → c.push.new.self.items ≡ c.self.inside.history.items ++ entry o c ∷ []
grown o c = rw c.get-answer.ensures.value at c.push.ensures ∙ ap (λ (xs : List Entry). xs ++ entry o c ∷ []) c.reserve.ensures.same

-- what is kept agreed with the state after the history, and is answered for
told : (o : Over) (c : After-push o) → AnswersFor (step (after (base o c).state c.self.inside.history.items) (entry o c).event) (entry o c).answer c.apply.new.self
told o c = c.in_ok-apply.ensures.ok (after (base o c).state c.self.inside.history.items) c.self.invariant.0.agrees

kept : (o : Over) (c : After-push o) → IsKept (base o c) c.apply.new.self c.count.new.self c.push.new.self.items
kept o c =
    let k = c.self.invariant.0 in
    let same : entries_of (base o c) c.self.inside.history.items ≡ entries_in c.args.self.now = ap (λ (set : LinkSet). entries_in set) c.self.view_is in
    let room : entries_of (base o c) c.self.inside.history.items < 2 ^ 48 = omega (arith, c.if-entries-ge-LONGEST_HISTORY.false, c.entries.ensures.value, same) in
    subst (λ (entries : List Entry). IsKept (base o c) c.apply.new.self c.count.new.self entries) (sym (grown o c)) (kept_more (base o c) c.self.inside.core c.apply.new.self c.self.inside.history.items (entry o c) c.requires.actor k.agrees (told o c) c.self.inside.tally c.count.new.self k room
    (record { user_calls = c.count.ensures.user_calls; term_calls = c.count.ensures.term_calls; messages = rw c.get-answer.ensures.value at c.count.ensures.messages; octets = rw c.get-answer.ensures.value at c.count.ensures.octets; entries = c.count.ensures.entries }))

pub apply-requires : goal.apply-requires
apply-requires o c =
    let k = c.self.invariant.0 in
    let s = after c.self.inside.base.state c.self.inside.history.items in
    (s, k.agrees, few_more (entries_of c.self.inside.base c.self.inside.history.items) (2 ^ 48) s k.short k.few)

pub count-requires-clause-user_calls : goal.count-requires-clause-user_calls
count-requires-clause-user_calls o c n =
    let k = c.self.invariant.0 in
    let calls = k.calls in
    let short = k.short in
    let counted = k.counted.user_calls in
    rw counted (omega (arith, in_sum (books_of c.self.inside.base c.self.inside.history.items).user_calls n, calls, short))

pub count-requires-clause-term_calls : goal.count-requires-clause-term_calls
count-requires-clause-term_calls o c n =
    let k = c.self.invariant.0 in
    let calls = k.calls in
    let short = k.short in
    let counted = k.counted.term_calls in
    rw counted (omega (arith, in_sum (books_of c.self.inside.base c.self.inside.history.items).term_calls n, calls, short))

pub count-requires-clause-messages : goal.count-requires-clause-messages
count-requires-clause-messages o c =
    let k = c.self.invariant.0 in
    let counted = k.counted.messages in
    let few = k.messages in
    let short = k.short in
    omega (arith, counted, few, short)

pub count-requires-clause-octets : goal.count-requires-clause-octets
count-requires-clause-octets o c =
    let k = c.self.invariant.0 in
    let counted = k.counted.octets in
    let few = k.octets in
    let short = k.short in
    omega (arith, counted, few, short)

pub count-requires-clause-entries : goal.count-requires-clause-entries
count-requires-clause-entries o c =
    let k = c.self.invariant.0 in
    let calls = k.calls in
    let short = k.short in
    let counted = k.counted.entries in
    omega (arith, counted, calls, short)

pub count-requires-clause-body : goal.count-requires-clause-body
count-requires-clause-body o c =
    let k = c.self.invariant.0 in
    let s = after c.self.inside.base.state c.self.inside.history.items in
    let told = c.in_ok-apply.ensures.ok s k.agrees in
    rw (c.get-answer.ensures.value, told.answer_is) (step_gains s (event_in c.args.event.now) k.agrees.sound.managed).octets

pub invariant_of-self-2 : goal.invariant_of-self-2
invariant_of-self-2 o c = (kept o c, c.self.invariant.1)

pub returns-clause-ok : goal.returns-clause-ok
returns-clause-ok o c =
    rw (← c.self.view_is, grown o c) (is_step (base o c) c.self.inside.core c.apply.new.self c.self.inside.history.items (entry o c) c.requires.actor c.self.invariant.0.agrees (told o c))

pub returns-clause-gains : goal.returns-clause-gains
returns-clause-gains o c =
    let k = c.self.invariant.0 in
    rw (← c.self.view_is, grown o c) (gained (base o c) c.self.inside.core c.apply.new.self c.self.inside.history.items (entry o c) c.requires.actor k.agrees (told o c) k.users k.terminals)

pub returns-clause-bounded : goal.returns-clause-bounded
returns-clause-bounded o c = (bounded (base o c) c.apply.new.self c.count.new.self c.push.new.self.items (kept o c))

pub invariant_of-self : goal.invariant_of-self
invariant_of-self o c = rw (c.reserve.ensures.same) c.self.invariant

pub invariant_of-self-in_err-apply : goal.invariant_of-self-in_err-apply
invariant_of-self-in_err-apply o c = rw (c.reserve.ensures.same) (rw c.in_err-apply.ensures.err c.self.invariant)
