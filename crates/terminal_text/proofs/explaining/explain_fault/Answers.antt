use Rattle.std.proofs.Common.{◌∙◌, ap, sym, Some}
use Rattle.text_forms.specs.declared.words.Blame.{Blame}
use Rattle.text_forms.specs.Showing.{explanation}
use Rattle.terminal_text.specs.declared.fault.TerminalFault.{TerminalFault}
use Rattle.terminal_text.specs.Explaining.{said}
use Rattle.terminal_text.proofs.explaining.explain_fault.Goals as goal

pub returns-in_ok-explain-in-Step : goal.returns-in_ok-explain-in-Step
returns-in_ok-explain-in-Step c =
    let text = c.args.text.now in
    let early = c.args.early in
    ap Some (c.in_ok-explain-in-Step.ensures ∙ ap (λ (b : Blame). explanation c.in-Step.line b text) c.blame_link.ensures)
    ∙ sym (ap (λ (fault : TerminalFault). said early text fault) c.in-Step.is)
