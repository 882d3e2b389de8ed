-- The lengths of good texts
use Rattle.std.proofs.Common.{◌≡◌, ℕ, ◌+◌, ◌*◌, ◌≤◌, Bool, List, length, ap, ◌∙◌, arith}
use Rattle.l2_bits.specs.LineBits.{line_bits}
use Rattle.l2_bits.specs.SealedText.{sealed_text}
use Rattle.l2_bits.specs.Contents.{IsGood}
use Rattle.l2_bits.proofs.OctetLemmas.{length-line_bits}
use Rattle.l2_bits.proofs.StuffingLemmas.{text_length}
use Rattle.l2_bits.proofs.SealedTextLemmas.{length-sealed_text}

pub good_length : (octets : List ℕ) → length (line_bits (sealed_text octets)) ≡ 8 * (length octets + 2)
good_length octets = length-line_bits (sealed_text octets) ∙ ap (λ (n : ℕ). 8 * n) (length-sealed_text octets)

-- good texts are at most 2,668 bits long
pub raw_fits : (raw : List Bool) (octets : List ℕ) → IsGood raw octets → length raw ≤ 2668
raw_fits raw octets good =
    omega (arith, text_length _ raw good.stuffed, good_length octets, good.longest)
