use Rattle.std.proofs.Common.{◌∙◌, ap₂, ℕ, List, ◌++◌, sym}
use Rattle.text_entries.proofs.Sealed.{end_is}
use Rattle.text_entries.proofs.texts.write_end.Goals as goal

pub returns : goal.returns
returns c =
    c.in_ok-extend_from_slice.ensures.items
    ∙ ap₂ (λ (a b : List ℕ). a ++ b) c.in_ok-text.ensures (c.deref.ensures.value ∙ c.in_ok-write_other_counts.ensures)
    ∙ sym (end_is c.args.end c.args.counts)
