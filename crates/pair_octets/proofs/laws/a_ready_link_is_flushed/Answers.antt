use Rattle.pair_octets.proofs.Flushing.{each_ready_link_is_flushed}
use Rattle.pair_octets.proofs.laws.a_ready_link_is_flushed.Goals as goal

pub returns : goal.returns
returns c = each_ready_link_is_flushed
