use Rattle.std.proofs.Common.{◌≡◌, ◌++◌, drop}
use Rattle.script_ladder.specs.Ladder.{whole_from, whole_words}
use Rattle.script_ladder.proofs.fitting.write_whole.Given as goal

abbrev pub invariant-loop-octet : goal.invariant-loop-octet
invariant-loop-octet l = whole_words l.text ≡ l.whole.items ++ whole_from l.begun.items (drop l.octet-index l.text)
