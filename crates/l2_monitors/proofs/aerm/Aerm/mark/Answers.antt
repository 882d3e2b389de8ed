use Rattle.std.proofs.Common.{arith}
use Rattle.std.proofs.lemmas.Bool.Decides.{nat_tests}
use Rattle.l2_monitors.proofs.Errors.{one_more}
use Rattle.l2_monitors.proofs.aerm.Aerm.mark.Goals as goal

pub returns-clause-goes_on : goal.returns-clause-goes_on
returns-clause-goes_on c = λ emergency past old. grind (arith, one_more)

pub returns-clause-tripped : goal.returns-clause-tripped
returns-clause-tripped c = λ emergency past old.
    let now = returns-clause-goes_on c emergency past old in
    (λ zero. grind (arith, nat_tests), λ reached. grind (arith, nat_tests))
