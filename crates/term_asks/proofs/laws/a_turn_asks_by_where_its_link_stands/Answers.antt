use Rattle.term_asks.proofs.Asking.{turns_ask}
use Rattle.term_asks.proofs.laws.a_turn_asks_by_where_its_link_stands.Goals as goal

pub returns : goal.returns
returns c marks t entries chosen ordinary commanded plain answers went narrow = turns_ask marks t entries chosen ordinary commanded plain answers went narrow
