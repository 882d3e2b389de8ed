use Rattle.std.proofs.Common.{◌≡◌, rules}
use Rattle.set_events.specs.Lent.{answer_in}
use Rattle.term_model.specs.Choosing.{sent_by, sends_fisu}
use Rattle.link_term.proofs.Choices.{as_chosen}
use Rattle.link_term.proofs.choosing.send.Goals as goal

pub returns-in_default-clause-sends : goal.returns-in_default-clause-sends
returns-in_default-clause-sends g c = λ made.
    let same : sent_by (answer_in c.args.answer.now) c.args.inside.now ≡ sends_fisu c.args.inside.now = search rules in
    as_chosen _ _ _ made _ c.send_fisu.new.inside _ _ _ same (c.send_fisu.ensures.sends _)
