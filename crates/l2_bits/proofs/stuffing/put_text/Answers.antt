use Rattle.std.proofs.Common.{◌≡◌, [], drop, sym, arith}
use Rattle.std.proofs.lemmas.List.{append-nil, drop_all}
use Rattle.l2_bits.specs.LineBits.{line_bits}
use Rattle.l2_bits.specs.Stuffing.{text_after}
use Rattle.l2_bits.proofs.StuffingLemmas.{has_text, text_after-nil}
use Rattle.l2_bits.proofs.stuffing.put_text.Goals as goal

pub returns-clause-text : goal.returns-clause-text
returns-clause-text c =
    let none : drop c.loop-octet.octet-index c.args.text.now ≡ [] = drop_all c.loop-octet.octet-index c.args.text.now (omega arith) in
    record {
      text = text_after 0 (line_bits c.args.text.now);
      stuffed = has_text (line_bits c.args.text.now);
      appended = sym (rw (none, text_after-nil, append-nil) at c.loop-octet.invariant.text);
    }
