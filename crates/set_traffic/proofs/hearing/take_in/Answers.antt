use Rattle.set_changeover.specs.Parts.{kept_of}
use Rattle.set_traffic.proofs.Traffic.{delivered, message_taken, order_obeyed}
use Rattle.set_traffic.proofs.hearing.take_in.Goals as goal

pub returns-in-Order : goal.returns-in-Order
returns-in-Order o c = λ unit s e a. rw c.if-not-accept.false (order_obeyed c.obey.new.parts s unit c.in-Order.order c.obey.result (rw c.in-Order.is at e) (c.obey.ensures.stands s a))

pub returns-in-Message : goal.returns-in-Message
returns-in-Message o c = λ unit s e a. rw c.if-not-accept.false (message_taken _ s unit c.in-Message.message (rw c.in-Message.is at e) (delivered (kept_of c.args.parts.now) s _ c.in-Message.message a.stands c.push_back_reserved.ensures.items))
