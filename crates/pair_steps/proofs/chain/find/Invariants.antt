use Rattle.std.proofs.Common.{◌≡◌, ◌+◌, length, take}
use Rattle.pair_steps.specs.Nests.{joined}
use Rattle.pair_steps.proofs.chain.find.Given as goal

abbrev pub invariant-loop-index : goal.invariant-loop-index
invariant-loop-index g l = length (joined g.S.HasUnits.units (take l.index l.parts)) + l.rest ≡ l.place
