use Rattle.std.proofs.Common.{◌≡◌, ◌∙◌, ap, sym, List, ℕ, Option, Some}
use Rattle.set_model.specs.State.{Settings}
use Rattle.text_entries.specs.FirstLine.{settings_in, settings_text}
use Rattle.text_entries.proofs.FirstLineLemmas.{read_back_each}
use Rattle.text_entries.proofs.first_line.one_line.Goals as goal

pub returns : goal.returns
returns c = λ a b fits_a fits_b e.
    let same : Some a ≡ Some b = sym (read_back_each a fits_a) ∙ ap settings_in e ∙ read_back_each b fits_b in
    cc
