use Rattle.text_lines.proofs.FunctionLemmas.{alike_all}
use Rattle.text_lines.specs.Explaining.{fault_alone}
use Rattle.script_walk.specs.Scripts.{script_rules}
use Rattle.script_walk.proofs.text.tell_explained.Goals as goal

pub returns-clause-same : goal.returns-clause-same
returns-clause-same g c = alike_all (script_rules g.A.Account.told) (fault_alone c.print_explained.result) _ _ _ c.print_explained.ensures.same
