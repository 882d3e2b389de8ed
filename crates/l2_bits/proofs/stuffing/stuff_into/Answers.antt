use Rattle.std.proofs.Common.{◌≡◌, ℕ, [], Bool, List, ◌++◌, ap, ◌∙◌, append_assoc}
use Rattle.l2_bits.specs.LineBits.{bits_of, line_bits}
use Rattle.l2_bits.specs.Packing.{packed}
use Rattle.l2_bits.proofs.BitLemmas.{bits_of-zero}
use Rattle.l2_bits.proofs.stuffing.stuff_into.Goals as goal

pub returns-clause-text : goal.returns-clause-text
returns-clause-text c =
    let text = c.put_text-part.ensures.text in
    let none : packed c.new-text.result c.none.result ≡ [] = rw (c.new-text.ensures, c.none.ensures) (bits_of-zero c.none.result.bits) in
    record {
      text = text.text;
      stuffed = text.stuffed;
      appended =
          c.unpack.ensures.bits
          ∙ ap (λ (line : List Bool). line ++ bits_of c.put_text-part.result.count c.put_text-part.result.bits) c.unpack_octets.ensures.bits
          ∙ append_assoc c.args.line.now.items (line_bits c.as_slice.result.now) (bits_of c.put_text-part.result.count c.put_text-part.result.bits)
          ∙ ap (λ (items : List ℕ). c.args.line.now.items ++ (line_bits items ++ bits_of c.put_text-part.result.count c.put_text-part.result.bits)) c.as_slice.ensures.value
          ∙ ap (λ (bits : List Bool). c.args.line.now.items ++ bits) (text.appended ∙ ap (λ (bits : List Bool). bits ++ text.text) none);
    }
