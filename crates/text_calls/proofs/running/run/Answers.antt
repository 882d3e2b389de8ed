use Rattle.text_units.specs.UnitsText.{IsUnitsText}
use Rattle.text_calls.specs.declared.running.TextFault.TheVariants.{Units as UnitsFault}
use Rattle.text_calls.proofs.RunLemmas.{one_fault, prints_all}
use Rattle.text_calls.proofs.running.run.Goals as goal

pub returns-in-Units-clause-text : goal.returns-in-Units-clause-text
returns-in-Units-clause-text g c = rw (one_fault UnitsFault _ (λ fault given e. e) c.units.result c.of_any.result c.of_any.ensures, c.in-Units.is) (prints_all IsUnitsText UnitsFault c.units.result _ _ _ c.units.ensures.text)
