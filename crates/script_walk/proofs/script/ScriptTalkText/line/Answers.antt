use Rattle.text_lines.proofs.FunctionLemmas.{carried_out}
use Rattle.script_walk.specs.Scripts.{script_rules}
use Rattle.script_walk.proofs.script.ScriptTalkText.line.Goals as goal

pub returns : goal.returns
returns g c =
    carried_out (script_rules g.A.Account.told) c.carry_out.result c.args.number c.args.self.now c.args.text.now c.args.out.now.items
    c.carry_out.new.out.items c.carry_out.new.self c.carry_out.ensures
