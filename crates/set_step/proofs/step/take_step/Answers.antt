-- Each arm is what its callee promises, told of the event: the search finds it too, and takes a second for each.
use Rattle.std.proofs.Common.{arith}
use Rattle.set_step.proofs.step.take_step.Goals as goal

pub returns-in-Offer-clause-ok : goal.returns-in-Offer-clause-ok
returns-in-Offer-clause-ok o c = rw c.in-Offer.is c.offer.ensures.ok

pub returns-in-Some-clause-ok : goal.returns-in-Some-clause-ok
returns-in-Some-clause-ok o c = rw c.in-Take.is (let same = c.pop_front.ensures in let told = c.set_taken.ensures in let octets = c.octets.ensures.value in grind arith)

pub returns-in-None-clause-ok : goal.returns-in-None-clause-ok
returns-in-None-clause-ok o c = rw c.in-Take.is (let same = c.pop_front.ensures in let told = c.set_refused.ensures in grind arith)

pub returns-in-Next-clause-ok : goal.returns-in-Next-clause-ok
returns-in-Next-clause-ok o c = rw c.in-Next.is c.send_next.ensures

pub returns-in-Heard-clause-ok : goal.returns-in-Heard-clause-ok
returns-in-Heard-clause-ok o c = rw c.in-Heard.is c.hear.ensures.ok

pub returns-in-Up-clause-ok : goal.returns-in-Up-clause-ok
returns-in-Up-clause-ok o c = rw c.in-Up.is c.bring_up.ensures.ok

pub returns-in-Down-clause-ok : goal.returns-in-Down-clause-ok
returns-in-Down-clause-ok o c = rw c.in-Down.is c.take_down.ensures.ok

pub returns-in-DownBlind-clause-ok : goal.returns-in-DownBlind-clause-ok
returns-in-DownBlind-clause-ok o c = rw c.in-DownBlind.is c.take_down-in-DownBlind.ensures.ok

pub returns-in-NoAnswer-clause-ok : goal.returns-in-NoAnswer-clause-ok
returns-in-NoAnswer-clause-ok o c = rw c.in-NoAnswer.is c.give_up.ensures.ok

pub returns-in-Timed-clause-ok : goal.returns-in-Timed-clause-ok
returns-in-Timed-clause-ok o c = rw c.in-Timed.is c.settle_by_time.ensures.ok

pub returns-in-Restore-clause-ok : goal.returns-in-Restore-clause-ok
returns-in-Restore-clause-ok o c = rw c.in-Restore.is c.restore.ensures.ok

pub returns-in-BackTimeout-clause-ok : goal.returns-in-BackTimeout-clause-ok
returns-in-BackTimeout-clause-ok o c = rw c.in-BackTimeout.is c.time_out.ensures.ok
