use Rattle.std.proofs.Common.{refl}
use Rattle.bank_traffic.proofs.Plans.{same_timers}
use Rattle.bank_traffic.proofs.traffic.plan_of.Goals as goal

pub returns : goal.returns
returns c = record { timers_are = same_timers _ _ _ _ _ _ _ _ _ _ _ _; turns_are = refl; fail_is = refl; checkpoint_is = refl; managed_is = c.managed_of.ensures; keeps_is = refl }
