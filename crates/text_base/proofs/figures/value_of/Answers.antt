use Rattle.std.proofs.Common.{◌∙◌, ap, sym, refl, ℕ, Option}
use Rattle.std.specs.Option.{option_and_then}
use Rattle.text_base.specs.Figures.{below_2_64}
use Rattle.text_base.proofs.FigureLemmas.{no_digit, all_digits}
use Rattle.text_base.proofs.figures.value_of.Goals as goal

pub returns-in-None : goal.returns-in-None
returns-in-None c =
    sym (ap (λ (x : Option ℕ). option_and_then below_2_64 x) c.loop-c.invariant.left
    ∙ no_digit c.loop-c.value _ c.loop-c.c-index c.args.word.now c.loop-c-test.true refl c.in-None.ensures)

pub returns : goal.returns
returns c =
    sym (ap (λ (x : Option ℕ). option_and_then below_2_64 x) c.loop-c.invariant.left
    ∙ all_digits c.loop-c.value c.loop-c.c-index c.args.word.now c.loop-c-test.false c.loop-c.invariant.fits)
