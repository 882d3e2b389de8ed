use Rattle.pair_wires.proofs.Standing.{turns_keep}
use Rattle.pair_wires.proofs.laws.each_turn_keeps_a_links_standing.Goals as goal

pub returns : goal.returns
returns c link started stopped marks was now entries unit s asks legal at starts = turns_keep link started stopped marks was now entries unit s asks legal at starts
