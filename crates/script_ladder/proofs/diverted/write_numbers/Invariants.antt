use Rattle.std.proofs.Common.{◌≡◌, ◌++◌, drop}
use Rattle.script_ladder.specs.Ladder.{numbers_words}
use Rattle.script_ladder.proofs.diverted.write_numbers.Given as goal

abbrev pub invariant-loop-number : goal.invariant-loop-number
invariant-loop-number l = numbers_words l.numbers ≡ l.words.items ++ numbers_words (drop l.number-index l.numbers)
