use Rattle.std.proofs.Common.{refl, arith, ap, length}
use Rattle.std.proofs.lemmas.List.{length-map}
use Rattle.std.specs.Vec.Iter.{into_iter_items}
use Rattle.bank_crew.proofs.Doing.{started_terminal}
use Rattle.bank_crew.proofs.set_thread.start_terminals.Goals as goal

pub loop-line-preserved : goal.loop-line-preserved
loop-line-preserved g c =
    let kept = c.loop-line.invariant in
    let more = started_terminal c.args.assignment.now.plan c.args.lines.items (into_iter_items c.loop-line.lines) (into_iter_items c.next.new.self) c.in-Some.line _ _ _ (length c.loop-line.threads.items) (length c.start_thread.new.threads.items) (into_iter_items c.loop-line.seats) (into_iter_items c.next-in-Some.new.self) c.in-Some-next.seat
    kept.0 c.in-Some-next.ensures.items kept.1 (length-map c.loop-line.threads.items _) c.in_ok-start_thread.ensures.started (length-map c.start_thread.new.threads.items _)
    c.link.ensures.who refl c.of.ensures kept.4 c.in-Some.ensures.items in (
      more.0,
      more.1,
      omega (arith, more.2, ap length c.in-Some-next.ensures.items, kept.2),
      omega (arith, more.2, c.in-Some.ensures.len, kept.3),
      more.3,
    )
