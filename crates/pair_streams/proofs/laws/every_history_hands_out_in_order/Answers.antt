use Rattle.pair_streams.proofs.Inbox.{hands_out}
use Rattle.pair_streams.proofs.laws.every_history_hands_out_in_order.Goals as goal

pub returns : goal.returns
returns c opening entries legal = hands_out opening entries legal
