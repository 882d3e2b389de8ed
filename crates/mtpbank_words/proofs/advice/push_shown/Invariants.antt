use Rattle.std.proofs.Common.{◌≡◌, ◌++◌, map, take}
use Rattle.mtpbank_words.specs.Advice.{plain}
use Rattle.mtpbank_words.proofs.advice.push_shown.Given as goal

abbrev pub invariant-loop-c : goal.invariant-loop-c
invariant-loop-c l = l.text.items ≡ l.initial.text.items ++ map plain (take l.c-index l.word)
