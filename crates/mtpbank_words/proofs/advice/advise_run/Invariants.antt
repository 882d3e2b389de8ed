use Rattle.std.proofs.Common.{◌≡◌, None, length, map}
use Rattle.mtpbank_words.specs.Advice.{run_advice}
use Rattle.mtpbank_words.proofs.advice.advise_run.Given as goal

-- what is said of the words that are left is said of all
abbrev pub invariant-loop-left : goal.invariant-loop-left
invariant-loop-left g l = run_advice None (map g.S.AsStr.text l.words) ≡ run_advice l.option (map g.S.AsStr.text l.left)

abbrev pub decreases-loop-left : goal.decreases-loop-left
decreases-loop-left g l = length l.left
