use Rattle.bank_core.specs.Faults.{IsNarrow}
use Rattle.set_ledger.proofs.Searching.{all_on}
use Rattle.bank_core.proofs.bank.are_narrow.Goals as goal

-- src/bank.rt
pub loop-config-preserved : goal.loop-config-preserved
loop-config-preserved c =
    all_on IsNarrow c.args.configs.now c.loop-config.config-index c.config-item.result c.loop-config-test.true c.config-item.is
    (c.is_narrow.ensures.0 c.if-not-is_narrow.false) c.loop-config.invariant
