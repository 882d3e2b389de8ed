use Rattle.bank_crew.proofs.Doing.{kept_on}
use Rattle.bank_crew.proofs.crew.wait_for_all.Goals as goal

-- src/crew.rt
pub loop-thread-preserved : goal.loop-thread-preserved
loop-thread-preserved g c =
    kept_on (λ thread. thread.promise) g.P.Promise.kept_by c.loop-thread.yielded c.in-Some.thread c.join-end.result c.loop-thread.seats.items _ _ c.loop-thread.told.items _ _ c.loop-thread.invariant c.join-end.ensures
    c.reserve.ensures.items c.reserve-in-loop-thread.ensures.items c.push_reserved.ensures.items c.push_reserved-in-loop-thread.ensures.items
