use Rattle.text_lines.proofs.TalkLemmas.{talk_ends}
use Rattle.text_lines.proofs.talking.TalkingLineText.end.Goals as goal

pub returns : goal.returns
returns g c = rw (← c.self.view_is) (talk_ends g.T.TalkText.rules c.end.result c.args._number _ _ _ c.end.ensures)
