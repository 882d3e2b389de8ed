use Rattle.std.proofs.Common.{◌↔◌, All, drop}
use Rattle.bank_core.specs.Faults.{IsNarrow}
use Rattle.bank_core.proofs.bank.are_narrow.Given as goal

-- whether the sets that are left are narrow decides
abbrev pub invariant-loop-config : goal.invariant-loop-config
invariant-loop-config l = All IsNarrow l.configs ↔ All IsNarrow (drop l.config-index l.configs)
