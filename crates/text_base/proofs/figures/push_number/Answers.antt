use Rattle.std.proofs.Common.{arith, ◌∙◌, ◌++◌, ◌∷◌, [], ap, List, ℕ}
use Rattle.text_base.proofs.FigureLemmas.{two_decimals}
use Rattle.text_base.proofs.figures.push_number.Goals as goal

pub returns-then-value-le99 : goal.returns-then-value-le99
returns-then-value-le99 c =
    c.push_reserved-then-value-le99-2.ensures.items
    ∙ ap (λ (text : List ℕ). text ++ c.decimal_digit-then-value-le99-2.result ∷ []) (c.push_reserved-then-value-le99.ensures.items ∙ ap (λ (text : List ℕ). text ++ c.decimal_digit-then-value-le99.result ∷ []) c.in_ok-reserve-2.ensures.items)
    ∙ two_decimals c.args.value c.decimal_digit-then-value-le99.result c.decimal_digit-then-value-le99-2.result c.args.text.now.items (omega (arith, c.if-value-le9.false)) (omega (arith, c.if-value-le99.true)) c.decimal_digit-then-value-le99.ensures c.decimal_digit-then-value-le99-2.ensures
