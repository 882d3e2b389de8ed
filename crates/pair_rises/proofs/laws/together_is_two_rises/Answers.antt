use Rattle.pair_rises.proofs.Together.{together_is_two}
use Rattle.pair_rises.proofs.laws.together_is_two_rises.Goals as goal

pub returns : goal.returns
returns c g link new is = together_is_two g link new is
