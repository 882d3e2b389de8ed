use Rattle.std.proofs.Common.{◌≡◌, ℕ, ◌/◌, Bool, List, ◌++◌, bit_and, ap, ◌∙◌, append_assoc}
use Rattle.l2_bits.specs.LineBits.{bits_of}
use Rattle.l2_bits.specs.Stuffing.{text_after}
use Rattle.l2_bits.specs.Packing.{packed}
use Rattle.l2_bits.proofs.PuttingLemmas.{halves}
use Rattle.l2_bits.proofs.stuffing.put_octet.Goals as goal

pub returns-clause-text : goal.returns-clause-text
returns-clause-text c = λ rest.
    let octet : ℕ = c.args.octet in
    let low : ℕ = bit_and octet 15 in
    let apart : bits_of 8 octet ≡ bits_of 4 low ++ bits_of 4 (octet / 16) = halves octet in
    ap (λ (bits : List Bool). packed c.args.octets.now c.args.end.part ++ text_after c.args.end.run (bits ++ rest)) apart
    ∙ ap (λ (bits : List Bool). packed c.args.octets.now c.args.end.part ++ text_after c.args.end.run bits) (append_assoc (bits_of 4 low) (bits_of 4 (octet / 16)) rest)
    ∙ c.put_half-end.ensures.text (bits_of 4 (octet / 16) ++ rest)
    ∙ c.put_half.ensures.text rest
