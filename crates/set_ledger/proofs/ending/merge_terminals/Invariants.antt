use Rattle.set_ledger.specs.Ending.{IsMerged, IsMergedFull}
use Rattle.set_ledger.proofs.ending.merge_terminals.Given as goal

abbrev pub invariant-loop-seat : goal.invariant-loop-seat
invariant-loop-seat g l = IsMerged (λ seat. seat.share.calls) l.yielded l.fn.calls.parts l.fn.calls.amount l.calls.parts l.calls.amount
    × IsMerged (λ seat. seat.share.acknowledged) l.yielded l.fn.acknowledged.parts l.fn.acknowledged.amount l.acknowledged.parts l.acknowledged.amount
    × IsMergedFull l.yielded l.fn.full.parts l.fn.full.amount l.full.parts l.full.amount
    × IsMerged (λ seat. seat.checkpoints) l.yielded l.fn.checkpoints.parts l.fn.checkpoints.amount l.checkpoints.parts l.checkpoints.amount
