use Rattle.std.proofs.Common.{arith, ◌∙◌, ap, ◌+◌, ℕ}
use Rattle.std.proofs.lemmas.Bool.Decides.{nat_tests}
use Rattle.set_changeover.proofs.States.{acked_for, link_for}
use Rattle.set_traffic.proofs.hearing.acknowledge.Goals as goal

pub returns-then-acked-eq0-clause-stands : goal.returns-then-acked-eq0-clause-stands
returns-then-acked-eq0-clause-stands o c = λ k s link counted there e p f. rw c.if-acked-eq0.true (rw f.routing (link_for _ s c.args.number link counted s.routing f there (omega (arith, e, c.if-acked-eq0.true)) p))

pub returns-clause-stands : goal.returns-clause-stands
returns-clause-stands o c = λ k s link counted there e p f.
    let q = c.args.queues.now.lists in
    let reaches = c.requires.reach (grind (arith, nat_tests, c.if-acked-eq0.false)) in
    let moves = rw c.unwrap.ensures at c.acknowledge.ensures.moves in
    rw (moves.lists, moves.messages, reaches.count_is) (acked_for (record k { lists = q; messages = c.args.queues.now.messages }) s c.args.number c.args.bsn link counted f there c.requires.bsn (e ∙ ap (λ (i : ℕ). link.acked + i) reaches.count_is) p)
