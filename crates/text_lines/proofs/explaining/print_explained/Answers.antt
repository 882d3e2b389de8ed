use Rattle.text_lines.proofs.ExplainLemmas.{alike_all}
use Rattle.text_lines.proofs.explaining.print_explained.Goals as goal

pub returns-clause-same : goal.returns-clause-same
returns-clause-same g c = alike_all g.T.TalkText.rules g.T.Explains.said c.print_talk.result _ _ _ c.print_talk.ensures.text
