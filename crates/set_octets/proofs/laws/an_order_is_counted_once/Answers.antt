use Rattle.set_octets.proofs.Lateness.{late_orders}
use Rattle.set_octets.proofs.laws.an_order_is_counted_once.Goals as goal

pub returns : goal.returns
returns c = late_orders
