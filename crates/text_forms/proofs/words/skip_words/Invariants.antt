use Rattle.std.proofs.Common.{◌≡◌, ◌-◌}
use Rattle.text_forms.specs.Words.{words_from}
use Rattle.text_forms.proofs.words.skip_words.Given as goal

-- so many words are left to pass over
abbrev pub invariant-loop : goal.invariant-loop
invariant-loop l = words_from l.place l.text ≡ words_from (l.place - l.counter) l.words
