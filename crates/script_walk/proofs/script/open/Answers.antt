use Rattle.std.proofs.Common.{refl}
use Rattle.text_base.proofs.PrintLemmas.{passed_on}
use Rattle.script_walk.proofs.script.open.Goals as goal

pub returns-in_err-made-clause-done : goal.returns-in_err-made-clause-done
returns-in_err-made-clause-done g c =
    rw (passed_on c.from_residual.result c.in_err-made.field-0.0 c.from_residual.ensures.1) (c.in_err-made.ensures.made g.A.Account.told, refl)
