use Rattle.std.proofs.Common.{◌≡◌, ◌/◌, ◌%◌, [], ◌∷◌, ◌++◌, ◌∙◌, arith}
use Rattle.std.proofs.lemmas.Grind.{common_steps}
use Rattle.l2_bits.proofs.SealedTextLemmas.{sealed_by_number}
use Rattle.l2_bits.proofs.sealed_text.seal.Goals as goal

pub returns-clause-text : goal.returns-clause-text
returns-clause-text c =
    let octets = c.args.octets.now in
    let check = c.check_of.result in
    let text : c.push-3.new.self.items ≡ octets ++ check % 256 ∷ check / 256 ∷ [] = grind (arith, common_steps) in
    text ∙ sealed_by_number octets check (omega arith) c.check_of.ensures
