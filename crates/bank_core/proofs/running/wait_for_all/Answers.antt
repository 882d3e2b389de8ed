use Rattle.std.proofs.Common.{arith, ◌∷◌, []}
use Rattle.std.proofs.lemmas.List.{length-append}
use Rattle.bank_core.proofs.Ending.{answered}
use Rattle.bank_core.proofs.running.wait_for_all.Goals as goal

-- src/running.rt
pub loop-thread-preserved : goal.loop-thread-preserved
loop-thread-preserved g c =
    let kept = c.loop-thread.invariant in (
      answered g.L.Line (λ thread. thread.promise) c.loop-thread.yielded c.in-Some.thread c.loop-thread.answers.items _ _ kept.0 c.join.ensures c.push_reserved.ensures.items,
      omega (arith, length-append c.loop-thread.yielded (c.in-Some.thread ∷ []), kept.1, c.push_reserved.ensures.len),
      omega (arith, kept.2, c.push_reserved.ensures.capacity),
    )
