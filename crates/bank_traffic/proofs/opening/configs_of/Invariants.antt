use Rattle.bank_traffic.specs.Opening.{AreConfigs}
use Rattle.bank_traffic.proofs.opening.configs_of.Given as goal

abbrev pub invariant-loop-set : goal.invariant-loop-set
invariant-loop-set l = AreConfigs l.set l.links l.opc l.dpc l.method l.configs.items
