use Rattle.std.proofs.Common.{refl, arith, ap, length}
use Rattle.std.proofs.lemmas.List.{length-append, length-map}
use Rattle.std.specs.Option.{option_to_list}
use Rattle.std.specs.Vec.Iter.{into_iter_items}
use Rattle.bank_crew.proofs.Doing.{started_user}
use Rattle.bank_crew.proofs.Taking.{ran_out}
use Rattle.bank_crew.proofs.set_thread.start_users.Goals as goal

-- src/set_thread.rt
pub loop-seat-preserved : goal.loop-seat-preserved
loop-seat-preserved g c =
    let kept = c.loop-seat.invariant in
    let more = started_user _ _ _ _ (length c.loop-seat.threads.items) (length c.start_thread.new.threads.items) (into_iter_items c.loop-seat.seats) (into_iter_items c.next.new.self) c.in-Some.seat
    (into_iter_items c.loop-seat.jobs) (into_iter_items c.next-in-Some.new.self) c.next-in-Some.result c.unwrap_or-job.result _ kept.0 c.in-Some.ensures.items kept.1 (length-map c.loop-seat.threads.items _) c.in_ok-start_thread.ensures.started (length-map c.start_thread.new.threads.items _)
    c.number.ensures.who c.of.ensures kept.2 c.next-in-Some.ensures.items (λ none. ran_out _ _ c.next-in-Some.result _ _ c.next-in-Some.ensures.cases kept.3 none) c.unwrap_or-job.ensures refl in (
      more.0,
      more.1,
      more.2,
      omega (arith, c.next-in-Some.ensures.len, ap length c.next-in-Some.ensures.items, length-append (option_to_list c.next-in-Some.result) (into_iter_items c.next-in-Some.new.self), kept.3),
      omega (arith, c.in-Some.ensures.len, ap length c.in-Some.ensures.items, kept.4),
      omega (arith, more.3, ap length c.in-Some.ensures.items, kept.5),
    )
