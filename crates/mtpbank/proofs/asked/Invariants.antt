use Rattle.std.proofs.Common.{◌≡◌, ◌++◌}
use Rattle.std.specs.Vec.Iter.{into_iter_items}
use Rattle.mtpbank.proofs.asked.Given as goal

-- what was given already, and what is left, are all arguments
abbrev pub invariant-loop-word : goal.invariant-loop-word
invariant-loop-word l = l.given.items ++ into_iter_items l.word-iterator ≡ into_iter_items l.initial.word-iterator
