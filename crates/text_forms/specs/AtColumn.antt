-- THE WORD AT FAULT of a line, by its column.
use Rattle.std.specs.Prelude.{ℕ, nat_le, List, length, drop, if◌then◌else◌}
use Rattle.text_forms.specs.Words.{first_word, judged}
use Rattle.text_forms.specs.declared.mistake.Mistake.{Mistake}
use Rattle.text_forms.specs.declared.words.Blame.{Blame}

-- the word that begins there has what no word has, or this is wrong; behind the line a word is missing
abbrev pub blamed_at : List ℕ → ℕ → Mistake → Blame
blamed_at text column mistake =
    if nat_le (length text) column then record { column = length text; mistake = mistake }
    else record { column = column; mistake = judged (first_word (drop column text)) mistake }
