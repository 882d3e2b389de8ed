use Rattle.std.proofs.Common.{arith, ◌≡◌, ◌∙◌, [], drop}
use Rattle.std.proofs.lemmas.Grind.{common_steps}
use Rattle.std.proofs.lemmas.List.{drop_more}
use Rattle.term_core.specs.declared.clocks.Timer.{Timer}
use Rattle.link_term.specs.Orders.{ends}
use Rattle.link_term.proofs.Rows.{one_more, one_broken, none_left}
use Rattle.link_term.proofs.timing.end_each.Goals as goal

pub returns-in_err-end-clause-talks : goal.returns-in_err-end-clause-talks
returns-in_err-end-clause-talks g c =
    let broke = c.in_err-end.ensures.talks in
    one_broken ends c.args.timers.now _ _ _ _ _ _ _ _ _ _ _
    (drop_more c.args.timers.now c.loop-timer.timer-index Timer.T1 c.loop-timer-test.true)
    c.loop-timer.invariant.completes c.from_residual.ensures.1 broke.0 broke.1

pub loop-timer-preserved : goal.loop-timer-preserved
loop-timer-preserved g c =
    let went = c.in_ok-end.ensures.talks in record {
      at = c.in_ok-end.ensures.at;
      number = c.in_ok-end.ensures.number ∙ c.loop-timer.invariant.number;
      door = g.met.D.Door.same_on _ _ _ c.loop-timer.invariant.door c.in_ok-end.ensures.door;
      completes = one_more ends c.args.timers.now _ _ _ _ _ _ _ _ _
          (drop_more c.args.timers.now c.loop-timer.timer-index Timer.T1 c.loop-timer-test.true)
          c.loop-timer.invariant.completes went.0 went.1;
    }

pub returns-clause-talks : goal.returns-clause-talks
returns-clause-talks g c =
    let none : drop c.loop-timer.timer-index c.args.timers.now ≡ [] = grind (arith, common_steps) in
    none_left ends c.args.timers.now _ _ _ _ _ none c.loop-timer.invariant.completes
