use Rattle.pair_wires.proofs.Read.{offers_kept, read_off}
use Rattle.pair_wires.proofs.laws.streams_are_read_off.Goals as goal

pub returns : goal.returns
returns c = record { kept = offers_kept; read = read_off }
