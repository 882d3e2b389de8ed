use Rattle.text_lines.proofs.FunctionLemmas.{alike_all}
use Rattle.script_walk.specs.Scripts.{script_rules}
use Rattle.script_walk.proofs.text.tell_script.Goals as goal

pub returns-clause-text : goal.returns-clause-text
returns-clause-text g c = alike_all (script_rules g.A.Account.told) c.print_talk.result _ _ _ c.print_talk.ensures.text
