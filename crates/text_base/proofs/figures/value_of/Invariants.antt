use Rattle.std.proofs.Common.{◌≡◌, ◌<◌, ◌^◌, drop}
use Rattle.text_base.specs.Figures.{digits_behind}
use Rattle.text_base.proofs.figures.value_of.Given as goal

abbrev pub invariant-loop-c : goal.invariant-loop-c
invariant-loop-c l = record {
  left : digits_behind 0 l.word ≡ digits_behind l.value (drop l.c-index l.word);
  fits : l.value < 2 ^ 64;
}
