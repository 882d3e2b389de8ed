-- How a link stands is the same word where that has the same number.
use Rattle.std.proofs.Common.{refl, ◌≡◌, ◌≢◌, ◌∙◌, ap, sym, inl, inr, ◌⊎◌, ℕ, zero, suc, Bool, true, false, ◌==◌, IsTrue, ◌↔◌}
use Rattle.std.proofs.lemmas.Bool.{eq-eqb}
use Rattle.std.proofs.lemmas.Bool.Decides.{eqb_tells}
use Rattle.term_bench.specs.declared.word.LinkWord.{LinkWord}
use Rattle.terminal_text.specs.Showing.{word_number}

abbrev word_at : ℕ → LinkWord
word_at zero = LinkWord.Out
word_at (suc zero) = LinkWord.Unaligned
word_at (suc (suc zero)) = LinkWord.Aligned
word_at (suc (suc (suc zero))) = LinkWord.Proving
word_at (suc (suc (suc (suc zero)))) = LinkWord.Ready
word_at (suc (suc (suc (suc (suc zero))))) = LinkWord.Waiting
word_at (suc (suc (suc (suc (suc (suc zero)))))) = LinkWord.Up
word_at (suc (suc (suc (suc (suc (suc (suc zero))))))) = LinkWord.Paused
word_at _ = LinkWord.Outage

found : (word : LinkWord) → word_at (word_number word) ≡ word
found LinkWord.Out = refl
found LinkWord.Unaligned = refl
found LinkWord.Aligned = refl
found LinkWord.Proving = refl
found LinkWord.Ready = refl
found LinkWord.Waiting = refl
found LinkWord.Up = refl
found LinkWord.Paused = refl
found LinkWord.Outage = refl

one_word : (a b : LinkWord) → word_number a ≡ word_number b → a ≡ b
one_word a b same = sym (found a) ∙ ap word_at same ∙ found b

pub same_words : (a b : LinkWord) (same : Bool) → IsTrue same ↔ (a ≡ b) → same ≡ (word_number a == word_number b)
same_words a b true is = sym (eq-eqb (word_number a) (word_number b) (ap word_number (is.0 refl)))
same_words a b false is = differ (eqb_tells (word_number a) (word_number b))
  where
    differ : ((word_number a == word_number b) ≡ true) × (word_number a ≡ word_number b) ⊎ ((word_number a == word_number b) ≡ false) × (word_number a ≢ word_number b) → false ≡ (word_number a == word_number b)
    differ (inl equal) = is.1 (one_word a b equal.1) ∙ sym equal.0
    differ (inr apart) = sym apart.0
