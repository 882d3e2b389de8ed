use Rattle.text_lines.proofs.TalkLemmas.{begun_by, lines_have_one, refuses_long}
use Rattle.text_lines.proofs.talking.TalkingLineText.laws.Goals as goal

pub returns-clause-one_text : goal.returns-clause-one_text
returns-clause-one_text g c = lines_have_one g.T.TalkText.rules g.T.TalkText.one_outcome

pub returns-clause-begun : goal.returns-clause-begun
returns-clause-begun g c = begun_by g.T.TalkText.rules

pub returns-clause-refuses : goal.returns-clause-refuses
returns-clause-refuses g c = refuses_long g.T.TalkText.rules
