use Rattle.std.proofs.Common.{◌∙◌, sym}
use Rattle.text_lines.proofs.TalkLemmas.{carried, passes_over}
use Rattle.text_lines.proofs.talking.TalkingLineText.line.Goals as goal

pub returns-then-is_passed_over : goal.returns-then-is_passed_over
returns-then-is_passed_over g c =
    passes_over g.T.TalkText.rules g.T.TalkText.one_outcome _ _ c.args.text.now _ c.requires (sym c.is_passed_over.ensures ∙ c.if-is_passed_over.true)

pub returns : goal.returns
returns g c =
    rw (← c.self.view_is)
    (carried g.T.TalkText.rules g.T.TalkText.one_outcome c.line.result _ _ _ c.args.text.now _ _ c.requires (sym c.is_passed_over.ensures ∙ c.if-is_passed_over.false) c.line.ensures)
