use Rattle.std.proofs.Common.{◌≡◌, take}
use Rattle.text_base.proofs.words.are_alike.Given as goal

abbrev pub invariant-loop-place : goal.invariant-loop-place
invariant-loop-place l = take l.place l.word ≡ take l.place l.text
