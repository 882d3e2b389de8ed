use Rattle.set_route.proofs.Alone.{alone}
use Rattle.set_route.proofs.laws.streams_move_alone.Goals as goal

pub returns : goal.returns
returns c routing stream sound below = alone routing stream sound below
