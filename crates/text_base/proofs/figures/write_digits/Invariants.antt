use Rattle.std.proofs.Common.{◌≡◌, ◌≤◌, ◌<◌, ◌+◌, ◌^◌, ◌++◌, drop, length}
use Rattle.std.specs.Fmt.{decimal}
use Rattle.text_base.proofs.figures.write_digits.Given as goal

abbrev pub invariant-loop-left : goal.invariant-loop-left
invariant-loop-left l = record {
  written : decimal l.left ++ drop (l.place + 1) l.digits ≡ decimal l.value;
  room : l.left < 10 ^ (l.place + 1);
  within : l.place ≤ 19;
  small : l.left < 2 ^ 64;
  places : length l.digits ≡ 20;
}

abbrev pub decreases-loop-left : goal.decreases-loop-left
decreases-loop-left l = l.left
