use Rattle.std.proofs.Common.{arith, take-append-drop}
use Rattle.text_base.proofs.FigureLemmas.{hex_split}
use Rattle.text_base.proofs.figures.push_hex.Goals as goal

pub loop-left-preserved : goal.loop-left-preserved
loop-left-preserved c =
    let l = c.loop-left in
    record {
      written = hex_split _ l.text.items c.push_piece.new.text.items l.left.now c.split_at.result.0.now c.split_at.result.1.now (rw (c.split_at.ensures.front, c.split_at.ensures.back) (take-append-drop _ l.left.now)) c.push_piece.ensures.written l.invariant.written;
      room = omega (arith, l.invariant.room, c.push_piece.ensures.len, c.push_piece.ensures.capacity, c.split_at.ensures.front_len, c.split_at.ensures.back_len);
    }
