use Rattle.std.proofs.Common.{arith, refl, subst, sym}
use Rattle.set_changeover.proofs.States.{becomes, sent_for}
use Rattle.l2_window.specs.declared.control.Choice.TheVariants.{First}
use Rattle.set_model.specs.Changeover.{cleared}
use Rattle.set_changeover.specs.Agreement.{Holds}
use Rattle.set_changeover.specs.Parts.{Up, kept_of}
use Rattle.set_changeover.proofs.Links.{is_in}
use Rattle.set_traffic.specs.Traffic.{goes_on}
use Rattle.set_traffic.proofs.Overtaken.{cleared_order}
use Rattle.set_traffic.proofs.Traffic.{given, with_body}
use Rattle.set_traffic.proofs.sending.send_next.Goals as goal

pub body_at-requires-clause-holds : goal.body_at-requires-clause-holds
body_at-requires-clause-holds o c =
    (c.clear.new.parts.links.items, subst (λ parts. Holds (record (kept_of parts) { links = c.clear.new.parts.links.items })) (sym c.go_on-choice.ensures.same) c.clear.ensures.holds)

pub body_at-requires-in-First-clause-holds : goal.body_at-requires-in-First-clause-holds
body_at-requires-in-First-clause-holds o c =
    (c.clear.new.parts.links.items, subst (λ parts. Holds (record (kept_of parts) { links = c.clear.new.parts.links.items })) (sym c.go_on-choice.ensures.same) c.clear.ensures.holds)

pub returns-in-Again : goal.returns-in-Again
returns-in-Again o c = λ s a.
    let i = is_in c.args.parts.now s c.args.number Up a c.in_default.ensures.here in
    let clear = cleared c.args.number s in
    let cleared_for = c.clear.ensures.stands s a.stands in
    let stands = c.go_on-choice.ensures.stands clear i.link i.there cleared_for in
    rw c.set_message.ensures (given c.args.number s clear _ i c.go_on-choice.result.0 c.go_on-choice.result.1 _ (c.go_on-choice.ensures.chosen clear i.link i.there cleared_for) (c.go_on-choice.ensures.head clear i.link i.there cleared_for)
    (rw c.in-Again.is (with_body _ _ (record { items = c.body_at.result.now }) (c.body_at.ensures.body _ stands))) (rw c.in-Again.is (rw c.in-Again.is at stands)))

pub returns-in-First : goal.returns-in-First
returns-in-First o c = λ s a.
    let i = is_in c.args.parts.now s c.args.number Up a c.in_default.ensures.here in
    let clear = cleared c.args.number s in
    let cleared_for = c.clear.ensures.stands s a.stands in
    let order = cleared_order c.args.number s (a.sound.links c.args.number i.link i.there).in_order in
    let sent = rw c.unwrap.ensures at c.send.ensures.sent in
    let stands = rw c.in-First.is at (c.go_on-choice.ensures.stands clear i.link i.there cleared_for) in
    rw c.set_message-in-First.ensures (given c.args.number s clear _ i c.go_on-choice.result.0 c.go_on-choice.result.1 _ (c.go_on-choice.ensures.chosen clear i.link i.there cleared_for) (c.go_on-choice.ensures.head clear i.link i.there cleared_for)
    (rw c.in-First.is (with_body _ _ (record { items = c.body_at-in-First.result.now }) (c.body_at-in-First.ensures.body _ stands)))
    (rw c.in-First.is (becomes (sent_for (kept_of c.go_on-choice.new.parts) (goes_on c.args.number First i.link clear) c.args.number stands order c.go_on-choice.ensures.queue) (grind (arith, sent.lists, sent.messages)))))

pub returns-in-Fill : goal.returns-in-Fill
returns-in-Fill o c = λ s a.
    let i = is_in c.args.parts.now s c.args.number Up a c.in_default.ensures.here in
    let clear = cleared c.args.number s in
    let cleared_for = c.clear.ensures.stands s a.stands in
    let stands = c.go_on-choice.ensures.stands clear i.link i.there cleared_for in
    rw c.set_fill_in.ensures (given c.args.number s clear _ i c.go_on-choice.result.0 c.go_on-choice.result.1 _ (c.go_on-choice.ensures.chosen clear i.link i.there cleared_for) (c.go_on-choice.ensures.head clear i.link i.there cleared_for)
    (rw c.in-Fill.is refl) (rw c.in-Fill.is (rw c.in-Fill.is at stands)))
