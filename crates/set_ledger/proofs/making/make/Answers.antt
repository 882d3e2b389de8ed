use Rattle.std.proofs.Common.{◌∙◌, ap}
use Rattle.set_events.specs.Lent.{event_in}
use Rattle.set_model.specs.Step.{messages_in, octets_of}
use Rattle.set_ledger.proofs.Growing.{brings}
use Rattle.set_ledger.proofs.making.make.Goals as goal

pub returns-clause-gains : goal.returns-clause-gains
returns-clause-gains g c =
    let same = c.get-answer.ensures.value in
    brings c.args.core.now c.apply_into.new.self c.args.who (event_in c.args.event.now) c.apply_into.new.reply c.count_messages.result c.count_octets.result c.acknowledged-before.result c.acknowledged.result
    c.requires.own c.in_ok-apply_into.ensures.ok c.in_ok-apply_into.ensures.gains c.in_ok-apply_into.ensures.bounded c.replays.ensures.short (c.count_messages.ensures ∙ ap messages_in same)
    (c.count_octets.ensures ∙ ap (octets_of (event_in c.args.event.now)) same) c.acknowledged-before.ensures c.acknowledged.ensures
