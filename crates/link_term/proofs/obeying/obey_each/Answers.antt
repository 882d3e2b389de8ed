use Rattle.std.proofs.Common.{arith, ◌≡◌, ◌∙◌, [], drop}
use Rattle.std.proofs.lemmas.Grind.{common_steps}
use Rattle.std.proofs.lemmas.List.{drop_more}
use Rattle.term_model.specs.declared.command.Command.{Command}
use Rattle.link_term.specs.Orders.{obeys_among}
use Rattle.link_term.proofs.Rows.{one_more, one_broken, none_left}
use Rattle.link_term.proofs.obeying.obey_each.Goals as goal

pub returns-in_err-obey_if-clause-talks : goal.returns-in_err-obey_if-clause-talks
returns-in_err-obey_if-clause-talks g c =
    let broke = c.in_err-obey_if.ensures.talks in
    one_broken (obeys_among c.args.commands) c.args.order.now _ _ _ _ _ _ _ _ _ _ _
    (drop_more c.args.order.now c.loop-command.command-index Command.Emergency c.loop-command-test.true)
    c.loop-command.invariant.completes c.from_residual.ensures.1 broke.0 broke.1

pub loop-command-preserved : goal.loop-command-preserved
loop-command-preserved g c =
    let went = c.in_ok-obey_if.ensures.talks in record {
      at = c.in_ok-obey_if.ensures.at;
      number = c.in_ok-obey_if.ensures.number ∙ c.loop-command.invariant.number;
      door = g.met.D.Door.same_on _ _ _ c.loop-command.invariant.door c.in_ok-obey_if.ensures.door;
      completes = one_more (obeys_among c.args.commands) c.args.order.now _ _ _ _ _ _ _ _ _
          (drop_more c.args.order.now c.loop-command.command-index Command.Emergency c.loop-command-test.true)
          c.loop-command.invariant.completes went.0 went.1;
    }

pub returns-clause-talks : goal.returns-clause-talks
returns-clause-talks g c =
    let none : drop c.loop-command.command-index c.args.order.now ≡ [] = grind (arith, common_steps) in
    none_left (obeys_among c.args.commands) c.args.order.now _ _ _ _ _ none c.loop-command.invariant.completes
