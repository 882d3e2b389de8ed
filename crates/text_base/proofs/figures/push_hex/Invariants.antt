use Rattle.std.proofs.Common.{◌≡◌, ◌≤◌, ◌+◌, ◌*◌, ◌++◌, length}
use Rattle.std.specs.Vec.{vec_len, vec_capacity}
use Rattle.text_base.specs.Figures.{hex_text}
use Rattle.text_base.proofs.figures.push_hex.Given as goal

abbrev pub invariant-loop-left : goal.invariant-loop-left
invariant-loop-left l = record {
  written : l.text.items ++ hex_text l.left ≡ l.initial.text.items ++ hex_text l.octets;
  room : vec_len l.text + 2 * length l.left ≤ vec_capacity l.text;
}

abbrev pub decreases-loop-left : goal.decreases-loop-left
decreases-loop-left l = length l.left
