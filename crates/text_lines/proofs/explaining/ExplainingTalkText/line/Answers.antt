use Rattle.text_lines.proofs.ExplainLemmas.{carried_up, stopped_up}
use Rattle.std.proofs.Common.{ap, subst, sym, ◌∙◌, Err, Option, List, ℕ}
use Rattle.text_lines.specs.Explaining.{IsExplained}
use Rattle.text_lines.proofs.explaining.ExplainingTalkText.line.Goals as goal

pub returns-in-Ok : goal.returns-in-Ok
returns-in-Ok g c =
    rw (← c.self.view_is) (carried_up g.T.TalkText.rules g.T.Explains.said c.args.number c.self.inside.text c.args.text.now c.line.result c.in-Ok.field-0
    _ _ _ c.in-Ok.is c.line.ensures)

pub returns-in-Err-Input : goal.returns-in-Err-Input
returns-in-Err-Input g c =
    rw (← c.self.view_is) (stopped_up g.T.TalkText.rules g.T.Explains.said c.args.number c.self.inside.text c.args.text.now c.line.result c.in-Err-Input.fault
    c.explained.result _ _ _ (c.in-Err-Input.is ∙ ap Err c.in-Err-Input.field-0-is) c.line.ensures
    (subst (λ (told : Option (List ℕ)). IsExplained c.explained.result c.in-Err-Input.fault told)
    (sym (c.before-before.ensures c.args.text.now c.in-Err-Input.fault)) c.explained.ensures))
