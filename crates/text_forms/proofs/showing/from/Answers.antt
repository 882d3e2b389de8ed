use Rattle.std.proofs.Common.{◌∙◌, ap, ℕ, drop}
use Rattle.std.proofs.lemmas.List.{drop_min}
use Rattle.text_forms.proofs.showing.from.Goals as goal

pub returns : goal.returns
returns c =
    let text = c.args.text.now in
    c.split_at.ensures.back ∙ ap (λ (n : ℕ). drop n text) c.min.ensures ∙ drop_min c.args.column text
