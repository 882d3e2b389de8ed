use Rattle.std.proofs.Common.{◌≡◌, ◌*◌, take, length}
use Rattle.text_base.specs.Figures.{hex_text}
use Rattle.text_base.proofs.figures.write_hex.Given as goal

abbrev pub invariant-loop-place : goal.invariant-loop-place
invariant-loop-place l = record {
  written : take (2 * l.place) l.digits ≡ hex_text (take l.place l.octets);
  places : length l.digits ≡ 64;
}
