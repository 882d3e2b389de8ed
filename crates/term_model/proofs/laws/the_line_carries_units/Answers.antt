use Rattle.term_model.proofs.OnLine.{carries}
use Rattle.term_model.proofs.laws.the_line_carries_units.Goals as goal

pub returns : goal.returns
returns c doings taken before after sound turns = carries doings taken before after sound turns
