use Rattle.l3_orders.proofs.TestTexts.{one_test_text}
use Rattle.l3_orders.proofs.test_grammar.one_test_text.Goals as goal

pub returns : goal.returns
returns c = one_test_text
