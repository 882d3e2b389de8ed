use Rattle.std.proofs.Common.{length}
use Rattle.text_lines.specs.Under.{HasReadLines}
use Rattle.text_lines.proofs.ReaderLemmas.{ReadUpTo}
use Rattle.text_lines.proofs.line_reader.LineReader.read_all.Given as goal

abbrev pub invariant-loop-place : goal.invariant-loop-place
invariant-loop-place g l = ReadUpTo (HasReadLines g.L.LineText.has_read l.initial.self) l.octets l.initial.out.items l.out.items (HasReadLines g.L.LineText.has_read l.self) l.left

abbrev pub decreases-loop-place : goal.decreases-loop-place
decreases-loop-place g l = length l.left
