use Rattle.text_lines.proofs.TalkLemmas.{talk_begins}
use Rattle.text_lines.proofs.text.print_talk.Goals as goal

pub print_lines-requires-clause-start : goal.print_lines-requires-clause-start
print_lines-requires-clause-start g c = rw c.requires.start (talk_begins g.L.TalkText.rules)
