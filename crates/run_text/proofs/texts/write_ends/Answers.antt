use Rattle.std.proofs.Common.{◌∙◌, ap, ap₂, ℕ, List, ◌++◌, codes}
use Rattle.run_text.specs.ReportText.{end_text}
use Rattle.run_text.proofs.texts.write_ends.Goals as goal

-- src/texts.rt
pub returns : goal.returns
returns c =
    c.in_ok-extend_from_slice.ensures.items
    ∙ ap₂ (λ (x y : List ℕ). x ++ y) (c.in_ok-text.ensures ∙ ap (end_text c.args.set (codes "a")) c.of.ensures)
    (c.deref.ensures.value ∙ c.in_ok-other.ensures ∙ ap (end_text c.args.set (codes "b")) c.of-2.ensures)
