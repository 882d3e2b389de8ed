use Rattle.set_events.specs.declared.event.Event.{Event}
use Rattle.term_model.specs.Choosing.{sent_by}
use Rattle.link_term.proofs.Choices.{asked_first}
use Rattle.link_term.proofs.choosing.ask_next.Goals as goal

pub returns-clause-sends : goal.returns-clause-sends
returns-clause-sends g c =
    let stepped = rw c.link-link.ensures at c.in_ok-step.ensures.ok in
    let sent = rw c.get.ensures.value at c.send.ensures.sends (g.D.Door.made c.step.new.self) in (
      asked_first (Event.Next c.args.inside.now.link) (λ answer. sent_by answer c.args.inside.now) _ c.step.new.reply c.send.result
          _ _ _ _ _ _ _ stepped.0 sent,
      stepped.1,
    )
