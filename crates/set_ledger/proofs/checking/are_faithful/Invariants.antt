use Rattle.std.proofs.Common.{◌↔◌, All, length}
use Rattle.set_ledger.specs.Ending.{IsFaithful}
use Rattle.set_ledger.proofs.checking.are_faithful.Given as goal

-- whether the seats that are left are faithful decides
abbrev pub invariant-loop-left : goal.invariant-loop-left
invariant-loop-left g l = All (λ seat. IsFaithful l.books l.history (g.S.Step.state seat)) l.seats ↔ All (λ seat. IsFaithful l.books l.history (g.S.Step.state seat)) l.left

abbrev pub decreases-loop-left : goal.decreases-loop-left
decreases-loop-left g l = length l.left
