use Rattle.std.proofs.Common.{◌≡◌, ◌<◌, ◌++◌, List, Bool, ℕ, length, ap, sym, ◌∙◌}
use Rattle.l2_bits.specs.LineBits.{bits_of, line_bits}
use Rattle.l2_bits.specs.Packing.{packed}
use Rattle.l2_bits.proofs.LeavingLemmas.{left, short_left, flag_bits}
use Rattle.l2_bits.proofs.bits_left.BitsLeft.append.Goals as goal

pub returns : goal.returns
returns c =
    let bits = c.self.inside in
    let text = c.put_text-part.ensures.text in
    let short : length (left bits.sent bits.octets.items bits.part.count bits.part.bits) < 8 = rw (← c.self.view_is) at c.requires.short in
    let before : packed c.clear.new.self bits.part ≡ c.args.self.now =
    ap (λ (octets : List ℕ). line_bits octets ++ bits_of bits.part.count bits.part.bits) c.clear.ensures
    ∙ sym (short_left bits.sent bits.octets.items bits.part.count bits.part.bits short) ∙ c.self.view_is in
    record {
      wire = text.text;
      stuffed = rw (c.as_slice.ensures.value, c.seal.ensures.text) at text.stuffed;
      appended =
          c.put-self-inside.ensures.bits ∙ ap (λ (line : List Bool). line ++ bits_of 8 126) text.appended
          ∙ ap (λ (line : List Bool). line ++ text.text ++ bits_of 8 126) before
          ∙ ap (λ (last : List Bool). c.args.self.now ++ text.text ++ last) flag_bits;
    }
