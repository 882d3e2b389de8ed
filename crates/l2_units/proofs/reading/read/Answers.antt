use Rattle.std.proofs.Common.{arith, Ok}
use Rattle.std.proofs.lemmas.Grind.{common_steps}
use Rattle.l2_units.specs.Profile.{Narrow}
use Rattle.l2_units.proofs.Texts.{found_stands, only_stands}
use Rattle.l2_units.proofs.reading.read.Goals as goal

pub returns-clause-exact : goal.returns-clause-exact
returns-clause-exact c = grind (arith, common_steps)

pub returns-clause-found : goal.returns-clause-found
returns-clause-found c = found_stands Narrow c.args.octets.now (Ok c.with_field.result) (λ i. omega (arith, c.type_inv.octets i)) (returns-clause-exact c)

pub returns-clause-only : goal.returns-clause-only
returns-clause-only c unit = only_stands Narrow c.args.octets.now (Ok c.with_field.result) unit (returns-clause-exact c)
