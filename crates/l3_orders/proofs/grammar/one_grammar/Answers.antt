use Rattle.l3_orders.proofs.Texts.{one_grammar}
use Rattle.l3_orders.proofs.grammar.one_grammar.Goals as goal

pub returns : goal.returns
returns c = one_grammar
