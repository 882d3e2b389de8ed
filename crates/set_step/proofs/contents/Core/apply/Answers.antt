use Rattle.set_events.specs.Lent.{event_in}
use Rattle.set_step.proofs.Kept.{answers_for, holds_after}
use Rattle.set_step.proofs.contents.Core.apply.Goals as goal

pub invariant_of-self-2 : goal.invariant_of-self-2
invariant_of-self-2 o c = holds_after c.self.inside.parts c.take_step.new.parts (event_in c.args.event.now) c.take_step.new.reply c.in_ok-take_step.ensures.ok c.self.invariant

pub returns-clause-ok : goal.returns-clause-ok
returns-clause-ok o c = rw (← c.self.view_is) (answers_for c.self.inside.parts c.take_step.new.parts (event_in c.args.event.now) c.take_step.new.reply c.in_ok-take_step.ensures.ok)
