use Rattle.std.proofs.Common.{arith, ◌<◌, ◌^◌, ◌+◌, length}
use Rattle.std.proofs.lemmas.Grind.{common_steps}
use Rattle.set_events.specs.Lent.{answer_in, event_in}
use Rattle.set_history.proofs.OneMore.{counted_are, counted_one}
use Rattle.set_history.proofs.pushing.counted.Goals as goal

pub returns-in-Some-clause-yes : goal.returns-in-Some-clause-yes
returns-in-Some-clause-yes c = λ runs are yes.
    let before : c.args.last.now.next < length c.args.octets.now = grind (arith, common_steps) in
    let more : c.args.last.now.more + 1 < 2 ^ 32 = grind (arith, common_steps) in (
      counted_are runs c.args.last.now c.args.octets.now (record { who = c.args.who; event = event_in c.args.event.now; answer = answer_in c.args.answer.now }) c.in-Some.next are c.in-Some.ensures.told c.in-Some.ensures.next before more,
      counted_one runs c.args.last.now c.args.octets.now (record { who = c.args.who; event = event_in c.args.event.now; answer = answer_in c.args.answer.now }) c.in-Some.next are c.in-Some.ensures.told c.in-Some.ensures.next before more,
    )
