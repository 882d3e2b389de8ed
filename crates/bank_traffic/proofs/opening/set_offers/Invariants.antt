use Rattle.std.proofs.Common.{◌≡◌, map}
use Rattle.bank_crew.specs.Jobs.{duty_of}
use Rattle.bank_traffic.specs.Opening.{near_jobs}
use Rattle.bank_traffic.proofs.opening.set_offers.Given as goal

abbrev pub invariant-loop-user : goal.invariant-loop-user
invariant-loop-user l = map duty_of l.jobs.items ≡ near_jobs l.user l.messages
