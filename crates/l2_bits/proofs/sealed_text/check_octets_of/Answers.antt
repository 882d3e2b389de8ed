use Rattle.std.proofs.Common.{◌≡◌, ◌/◌, ◌%◌, [], ◌∷◌, ◌++◌, ◌∙◌, arith}
use Rattle.std.proofs.lemmas.Grind.{common_steps}
use Rattle.l2_bits.proofs.SealedTextLemmas.{check_by_number}
use Rattle.l2_bits.proofs.sealed_text.check_octets_of.Goals as goal

pub returns : goal.returns
returns c =
    let check = c.check_of_both.result in
    let octets : c.to_le_bytes.result ≡ check % 256 ∷ check / 256 ∷ [] = grind (arith, common_steps) in
    octets ∙ check_by_number (c.args.front.now ++ c.args.rest.now) check (omega arith) c.check_of_both.ensures
