use Rattle.std.proofs.Common.{refl, sym, subst, ◌∙◌, [], Some}
use Rattle.terminal_text.proofs.OpenLemmas.{opens_narrow}
use Rattle.terminal_text.specs.Text.{MayOpen}
use Rattle.terminal_text.specs.declared.forgetting.ForgettingBench.{ForgettingBench}
use Rattle.text_forms.specs.Opening.{first_line}
use Rattle.text_forms.specs.declared.early.Early.{Early}
use Rattle.text_lines.specs.Lines.{prints}
use Rattle.terminal_text.proofs.open_end.open.Goals as goal

pub returns-in-Ok-new : goal.returns-in-Ok-new
returns-in-Ok-new c =
    subst (λ (b : ForgettingBench). MayOpen c.args.number c.args.text.now (first_line c.args.text.now)
    (prints [] (Some (record { bench = b; early = Early.Both })))) (sym c.new-in-Ok-new.ensures)
    (opens_narrow c.args.number c.args.text.now c.in-Ok.opening _ _ c.in-Ok-new.managed c.in-Ok.ensures (sym c.profile.ensures ∙ c.in-Narrow.is) refl refl
    c.in-Ok-new.ensures.ok)
