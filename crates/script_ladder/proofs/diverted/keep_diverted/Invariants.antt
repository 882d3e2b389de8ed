use Rattle.std.proofs.Common.{◌≡◌, ◌++◌, drop}
use Rattle.script_ladder.specs.Diverted.{diverted}
use Rattle.script_ladder.proofs.diverted.keep_diverted.Given as goal

abbrev pub invariant-loop-number : goal.invariant-loop-number
invariant-loop-number l =
    diverted l.set.state.rows l.stood ≡ l.numbers.items ++ diverted l.set.state.rows (drop l.number-index l.stood)
