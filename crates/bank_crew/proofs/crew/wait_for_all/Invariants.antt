use Rattle.std.proofs.Common.{map}
use Rattle.bank_crew.specs.Keeping.{AreKept}
use Rattle.bank_crew.proofs.crew.wait_for_all.Given as goal

abbrev pub invariant-loop-thread : goal.invariant-loop-thread
invariant-loop-thread g l = AreKept g.P.Promise.kept_by (map (λ thread. thread.promise) l.yielded) l.seats.items l.told.items
