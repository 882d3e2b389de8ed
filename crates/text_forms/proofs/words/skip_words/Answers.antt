use Rattle.std.proofs.Common.{◌≡◌, ◌∙◌, ap, ◌-◌, ◌+◌, suc, sym, ℕ, arith}
use Rattle.text_forms.specs.Words.{words_from}
use Rattle.text_forms.proofs.words.skip_words.Goals as goal

pub loop-preserved : goal.loop-preserved
loop-preserved c =
    let k = c.args.place - (c.loop.counter + 1) in
    let one_more : c.args.place - c.loop.counter ≡ suc k = omega arith in
    c.loop.invariant ∙ ap (λ (n : ℕ). words_from n c.loop.words.now) one_more ∙ ap (λ w. words_from k w) (sym c.skip_word-words.ensures)
