use Rattle.pair_wires.proofs.Moves.{each_moves, vain_is_none}
use Rattle.pair_wires.proofs.laws.each_entry_is_a_move.Goals as goal

pub returns : goal.returns
returns c = record { moves = each_moves; in_vain = vain_is_none }
