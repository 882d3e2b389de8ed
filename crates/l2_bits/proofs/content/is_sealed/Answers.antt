use Rattle.std.proofs.Common.{◌≡◌, ◌/◌, sym, ◌∙◌, arith}
use Rattle.std.proofs.lemmas.Nat.{and_mask}
use Rattle.std.proofs.lemmas.Bool.Decides.{nat_tests}
use Rattle.l2_bits.proofs.SealedTextLemmas.{tells_sealed, sealed_tells}
use Rattle.l2_bits.proofs.content.is_sealed.Goals as goal

pub returns-then-from-check-clause-no : goal.returns-then-from-check-clause-no
returns-then-from-check-clause-no c = λ _ is.
    let check = c.check_of-check.result in
    let ends = sealed_tells c.args.text.now check c.requires (omega arith) c.check_of-check.ensures is in
    c.if-from-check.true (c.from.ensures ∙ ends.0 ∙ sym (and_mask check 8))

pub returns-clause-yes : goal.returns-clause-yes
returns-clause-yes c = λ same.
    let check = c.check_of-check.result in
    let high : c.from-2.result ≡ check / 256 = grind (arith, nat_tests) in
    tells_sealed c.args.text.now check c.requires (omega arith) c.check_of-check.ensures
    (sym c.from.ensures ∙ c.if-from-check.false ∙ and_mask check 8) (sym c.from-2.ensures ∙ high)

pub returns-clause-no : goal.returns-clause-no
returns-clause-no c = λ other is.
    let check = c.check_of-check.result in
    let ends = sealed_tells c.args.text.now check c.requires (omega arith) c.check_of-check.ensures is in
    let high : c.from-2.result ≡ check / 256 = c.from-2.ensures ∙ ends.1 in
    absurd (grind (arith, nat_tests))
