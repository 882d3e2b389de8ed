use Rattle.std.proofs.Common.{◌∙◌, ap, sym, List, ℕ, ◌++◌}
use Rattle.text_entries.proofs.ItemLemmas.{piece_text}
use Rattle.text_entries.specs.Pieces.{checkpoint_text}
use Rattle.text_entries.proofs.items.write_piece.Goals as goal

pub returns : goal.returns
returns c =
    c.in_ok-extend_from_slice.ensures.items ∙ ap (λ (l : List ℕ). l ++ checkpoint_text) c.in_ok-text.ensures ∙ sym (piece_text c.args.profile c.args.entries)
