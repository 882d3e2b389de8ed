use Rattle.set_route.proofs.Alone.{codes_alone}
use Rattle.set_route.proofs.laws.each_code_moves_alone.Goals as goal

pub returns : goal.returns
returns c routing code sound below = codes_alone routing code sound below
